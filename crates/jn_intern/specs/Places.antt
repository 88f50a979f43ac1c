-- Where a path stands among binds, from the oldest on.
use Rattle.std.specs.Prelude.{◌≡◌, ℕ, List, All, Some, slice_get}
use Rattle.jn_intern.specs.declared.scope.Bind.{Bind}

-- the bind at i is one of the path
pub record IsAt (binds : List Bind) (q i : ℕ) : Type 0 where
  pub bind : Bind
  pub at : slice_get binds i ≡ Some bind
  pub path : bind.path ≡ q

-- none of the binds is one of the path
abbrev pub Lacks : List Bind → ℕ → Type 0
Lacks binds q = All (λ (b : Bind). b.path ≡ q → ⊥) binds
