use Rattle.jn_share.specs.Refining.{SaysClass}
use Rattle.jn_share.specs.Parting.{SamePart, NotAlike}
use Rattle.jn_share.proofs.Steps.{UnlikeTo}
use Rattle.jn_share.proofs.refining.first_like.Given as goal

abbrev pub invariant-loop-r : goal.invariant-loop-r
invariant-loop-r l = SaysClass l.t l.g l.types l.all l.v (λ p V. UnlikeTo p l.t.known.items l.among (λ X. NotAlike p (SamePart l.t.known.items l.parts) X V) l.r-index)
