-- Scopes that grow, and the paths of values.
use Rattle.std.specs.Prelude.{◌≡◌, ◌++◌, ℕ, List, Option}
use Rattle.jn_base.specs.declared.types.Ty.{Ty}
use Rattle.jn_intern.specs.declared.pool.TyId.{TyId}
use Rattle.jn_intern.specs.declared.scope.Bind.{Bind}
use Rattle.jn_intern.specs.declared.scope.Scope.{Scope}
use Rattle.jn_intern.specs.Pools.{InPool, shown, scope_in}
use Rattle.jn_rules.specs.Exprs.{Passing, path_or_fresh}
use Rattle.jn_expr.specs.Envs.{IsScope}

-- the later scope has more binds, behind those that were there
pub record Grows (old new : Scope) : Type 0 where
  pub more : List Bind
  pub is : new.binds.items ≡ old.binds.items ++ more

-- the pool has the number, which shows the type
pub record Shows (pool : List Ty) (id : TyId) (t : Ty) : Type 0 where
  pub number : InPool pool id
  pub shows : shown pool id ≡ t

-- a path and a scope, as the rules have them
abbrev pub passing_in : List Ty → Scope → ℕ → Passing
passing_in pool scope q = record { path = q; scope = scope_in pool scope }

-- q is the path of a value of the type, its own or a fresh one
pub record IsPassing (pool : List Ty) (old new : Scope) (t : Ty) (path : Option ℕ) (q : ℕ) : Type 0 where
  pub is : passing_in pool new q ≡ path_or_fresh t path (scope_in pool old)
  pub scope : IsScope pool new
  pub grows : Grows old new
