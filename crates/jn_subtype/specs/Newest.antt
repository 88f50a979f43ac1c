-- Where the newest bind of a path stands, among binds from the oldest on.
use Rattle.std.specs.Prelude.{◌≡◌, ℕ, List, [], take, slice_get, length, Some, Option}
use Rattle.std.specs.Option.{MatchOption}
use Rattle.jn_base.specs.declared.types.Ty.{Ty}
use Rattle.jn_base.specs.Atoms.{atoms_in, first_at}
use Rattle.jn_base.specs.Scopes.{bound_of}
use Rattle.jn_base.specs.Fits.{BindsFit}
use Rattle.jn_intern.specs.declared.scope.Bind.{Bind}
use Rattle.jn_intern.specs.Pools.{shown}
use Rattle.jn_subtype.specs.Binds.{binds_in}

-- among the first n binds the newest of the path q is that at i: its bound is that of the first atom of the bind's type,
-- in the binds before it
abbrev pub BoundAt : List Bind → ℕ → ℕ → ℕ → Type 0
BoundAt binds q n i = (pool : List Ty) (b : Bind) → slice_get binds i ≡ Some b
    → bound_of (binds_in pool (take n binds)) q ≡ first_at (bound_of (binds_in pool (take i binds))) (atoms_in (shown pool b.ty))

-- none of the first n binds has the path
abbrev pub Unbound : List Bind → ℕ → ℕ → Type 0
Unbound binds q n = (pool : List Ty) → bound_of (binds_in pool (take n binds)) q ≡ []

abbrev pub NewestTo : List Bind → ℕ → ℕ → Option ℕ → Type 0
NewestTo binds q n o = MatchOption o (Unbound binds q n) (BoundAt binds q n)

-- the newest bind of the path
abbrev pub IsNewest : List Bind → ℕ → Option ℕ → Type 0
IsNewest binds q o = NewestTo binds q (length binds) o

-- the binds fit, with the types of some pool; so each path is bound once
abbrev pub EachOnce : List Bind → Type 0
EachOnce binds = (pool : List Ty) × BindsFit (binds_in pool binds)
