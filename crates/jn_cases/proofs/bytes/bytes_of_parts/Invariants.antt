use Rattle.std.proofs.Common.{◌≡◌, [], drop}
use Rattle.toml.specs.View.{items_view}
use Rattle.jn_cases.specs.Cases.{text_part, with_parts}
use Rattle.jn_cases.proofs.bytes.bytes_of_parts.Given as goal

-- the parts that are left, put behind the bytes so far, give what all give
abbrev pub invariant-loop-part : goal.invariant-loop-part
invariant-loop-part l =
    with_parts text_part l.bytes.items (items_view (drop l.part-index l.parts)) ≡ with_parts text_part [] (items_view l.parts)
