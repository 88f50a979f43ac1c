use Rattle.jn_share.specs.Parts.{SaysCovers}
use Rattle.jn_share.proofs.Covers.{CoversFirst}
use Rattle.jn_share.proofs.parting.covers_of.Given as goal

abbrev pub invariant-loop-u : goal.invariant-loop-u
invariant-loop-u l = SaysCovers l.t l.g l.v l.w l.family (λ p V W. CoversFirst p l.t.known.items l.parts l.among l.u-index V W l.ty)
