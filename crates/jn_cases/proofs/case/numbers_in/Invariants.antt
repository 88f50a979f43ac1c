use Rattle.std.proofs.Common.{◌≡◌, map, take, pos}
use Rattle.toml.specs.Data.{integer}
use Rattle.toml.specs.View.{view}
use Rattle.jn_cases.proofs.case.numbers_in.Given as goal

-- the numbers so far are the first values
abbrev pub invariant-loop-value : goal.invariant-loop-value
invariant-loop-value l = map view (take l.value-index l.values) ≡ map (λ n. integer (pos n)) l.numbers.items
