use Rattle.jn_base.specs.Paths.{Path}
use Rattle.jn_share.specs.Firsts.{HasOther}
use Rattle.jn_share.specs.Parting.{SamePart}
use Rattle.jn_share.specs.Prepared.{IsDecl}
use Rattle.jn_share.specs.Refining.{SaysClass}
use Rattle.jn_share.proofs.Steps.{UnlikeTo}
use Rattle.jn_share.proofs.firsts.first_same.Given as goal

abbrev pub invariant-loop-r : goal.invariant-loop-r
invariant-loop-r l = SaysClass l.t l.g l.types l.all l.v.0 (λ p V. IsDecl p l.t.known.items l.types.list.items V l.field l.dv
    → UnlikeTo p l.t.known.items l.among (λ (X : Path). HasOther p (SamePart l.t.known.items l.parts) V l.field X) l.r-index)
