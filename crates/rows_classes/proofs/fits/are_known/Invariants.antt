use Rattle.std.proofs.Common.{All, take}
use Rattle.jn_intern.specs.declared.scope.Bind.{Bind}
use Rattle.jn_intern.specs.Pools.{InPool}
use Rattle.rows_classes.proofs.fits.are_known.Given as goal

abbrev pub invariant-loop-b : goal.invariant-loop-b
invariant-loop-b l = All (λ (b : Bind). InPool l.pool b.ty) (take l.b-index l.binds)
