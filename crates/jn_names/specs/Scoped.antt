-- The scope of a class with variables, and where the newest variable of a path stands.
use Rattle.std.specs.Prelude.{◌≡◌, ℕ, List, [], ◌∷◌, map, reverse, take, slice_get, length, Some, Option}
use Rattle.std.specs.Option.{MatchOption}
use Rattle.jn_base.specs.declared.names.Var.{Var}
use Rattle.jn_base.specs.Paths.{Path}
use Rattle.jn_base.specs.Atoms.{atoms_in, first_at}
use Rattle.jn_base.specs.Scopes.{Scope, bound_of, this_bind}
use Rattle.jn_base.specs.Resolve.{var_bind}

-- `this` in the class Q, then the variables in order
abbrev pub scope_from : Path → List Var → Scope
scope_from Q vs = reverse (this_bind Q ∷ map var_bind vs)

-- among the first n variables the newest of the path q is that at i: its bound is that of the first atom of the
-- variable's type, in the scope before it
abbrev pub BoundAt : List Var → ℕ → ℕ → ℕ → Type 0
BoundAt vs q n i = (Q : Path) (v : Var) → slice_get vs i ≡ Some v
    → bound_of (scope_from Q (take n vs)) q ≡ first_at (bound_of (scope_from Q (take i vs))) (atoms_in v.ty)

-- none of the first n variables has the path
abbrev pub OuterBound : List Var → ℕ → ℕ → Type 0
OuterBound vs q n = (Q : Path) → bound_of (scope_from Q (take n vs)) q ≡ bound_of (scope_from Q []) q

abbrev pub NewestTo : List Var → ℕ → ℕ → Option ℕ → Type 0
NewestTo vs q n o = MatchOption o (OuterBound vs q n) (BoundAt vs q n)

-- the newest variable of the path
abbrev pub IsNewest : List Var → ℕ → Option ℕ → Type 0
IsNewest vs q o = NewestTo vs q (length vs) o
