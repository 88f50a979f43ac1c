use Rattle.std.proofs.Common.{◌≡◌, map, take, string_bytes}
use Rattle.toml.specs.Data.{string}
use Rattle.toml.specs.View.{view}
use Rattle.jn_cases.proofs.case.texts_in.Given as goal

-- the texts so far are the first values
abbrev pub invariant-loop-value : goal.invariant-loop-value
invariant-loop-value l =
    map view (take l.value-index l.values) ≡ map (λ text. string (string_bytes text)) l.texts.items
