-- What the numbers of a pool show, and how a scope of numbers is a scope of types.
use Rattle.std.specs.Prelude.{◌≡◌, ◌<◌, List, length, map, reverse, get_or, All}
use Rattle.jn_base.specs.declared.types.Ty.{Ty}
use Rattle.jn_base.specs.declared.types.Ty.TheVariants as ty
use Rattle.jn_base.specs.Scopes.{Bind as TypeBind, Scope as TypeScope}
use Rattle.jn_intern.specs.declared.pool.TyId.{TyId}
use Rattle.jn_intern.specs.declared.scope.Bind.{Bind}
use Rattle.jn_intern.specs.declared.scope.Scope.{Scope}

-- the pool has this number
abbrev pub InPool : List Ty → TyId → Type 0
InPool pool id = id.0 < length pool

-- the term of a number (void where the pool has no such number)
abbrev pub shown : List Ty → TyId → Ty
shown pool id = get_or pool id.0 ty.Void

-- Each older number shows the same.
pub record Keeps (old new : List Ty) : Type 0 where
  pub has : (id : TyId) → InPool old id → InPool new id
  pub shows : (id : TyId) → InPool old id → shown new id ≡ shown old id

-- the pool has the numbers that the scope binds its paths to
abbrev pub ScopeInPool : List Ty → Scope → Type 0
ScopeInPool pool scope = All (λ (b : Bind). InPool pool b.ty) scope.binds.items

-- a bind of a path to a number, as one to the term of that number
abbrev pub bind_in : List Ty → Bind → TypeBind
bind_in pool b = record { path = b.path; ty = shown pool b.ty }

-- a scope of numbers, as a scope of types: the newest bind first
abbrev pub scope_in : List Ty → Scope → TypeScope
scope_in pool scope = reverse (map (bind_in pool) scope.binds.items)
