use Rattle.std.proofs.Common.{All, take}
use Rattle.jn_base.specs.Atoms.{atom_of}
use Rattle.jn_intern.specs.Pools.{scope_in}
use Rattle.jn_expr.specs.Fitting.{FitsAt}
use Rattle.jn_expr.proofs.fits.all_fit_at.Given as goal

abbrev pub invariant-loop-x : goal.invariant-loop-x
invariant-loop-x l = All (λ x. FitsAt (scope_in l.pool l.scope) l.depth (atom_of x)) (take l.x-index l.xs)
