use Rattle.jn_share.specs.Atoms.{SaysAt}
use Rattle.jn_share.proofs.Inside.{InFirst}
use Rattle.jn_share.proofs.atoms.in_atoms.Given as goal

abbrev pub invariant-loop-x : goal.invariant-loop-x
invariant-loop-x l = SaysAt l.t l.view l.u (λ p v U. InFirst p v l.xs U l.x-index)
