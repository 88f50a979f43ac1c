use Rattle.std.proofs.Common.{◌≡◌, All, take}
use Rattle.jn_intern.specs.declared.scope.Bind.{Bind}
use Rattle.rows_classes.proofs.fits.has_path.Given as goal

abbrev pub invariant-loop-b : goal.invariant-loop-b
invariant-loop-b l = All (λ (b : Bind). b.path ≡ l.path → ⊥) (take l.b-index l.binds)
