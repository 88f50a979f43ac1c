use Rattle.std.proofs.Common.{◌≡◌, map, take, All}
use Rattle.toml.specs.View.{view}
use Rattle.jn_cases.specs.Cases.{IsNamed}
use Rattle.jn_cases.proofs.read.cases_of.Given as goal

-- the cases so far are those of the first tables
abbrev pub invariant-loop-i : goal.invariant-loop-i
invariant-loop-i l = (map (λ c. view c.entries) l.cases.items ≡ map view (take l.i l.values)) × All IsNamed l.cases.items
