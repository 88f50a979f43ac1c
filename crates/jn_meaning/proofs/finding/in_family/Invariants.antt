use Rattle.std.proofs.Common.{◌≡◌, ◌∷◌, take}
use Rattle.jn_meaning.proofs.finding.in_family.Given as goal

abbrev pub invariant-loop-name : goal.invariant-loop-name
invariant-loop-name l = l.list ≡ l.fn.family ∷ take l.name-index l.inner
