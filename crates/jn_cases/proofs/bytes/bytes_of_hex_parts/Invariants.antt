use Rattle.std.proofs.Common.{◌≡◌, [], drop}
use Rattle.toml.specs.View.{items_view}
use Rattle.jn_cases.specs.Cases.{hex_bytes, part_bytes, with_parts}
use Rattle.jn_cases.proofs.bytes.bytes_of_hex_parts.Given as goal

-- the parts that are left, put behind the bytes so far, give what all give
abbrev pub invariant-loop-part : goal.invariant-loop-part
invariant-loop-part l =
    with_parts (part_bytes hex_bytes) l.bytes.items (items_view (drop l.part-index l.parts)) ≡ with_parts (part_bytes hex_bytes) [] (items_view l.parts)
