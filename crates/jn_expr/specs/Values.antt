-- What an expression has, by numbers of a pool.
use Rattle.std.specs.Prelude.{◌≡◌, ℕ, List, [], ◌∷◌, true, Option, Some, None}
use Rattle.jn_base.specs.declared.types.Ty.{Ty}
use Rattle.jn_base.specs.declared.types.ValKind.{ValKind}
use Rattle.jn_base.specs.Fits.{TypeFits}
use Rattle.jn_base.specs.Resolve.{is_class}
use Rattle.jn_intern.specs.declared.pool.TyId.{TyId}
use Rattle.jn_intern.specs.declared.scope.Scope.{Scope}
use Rattle.jn_intern.specs.Pools.{InPool, shown, scope_in}
use Rattle.jn_rules.specs.Plans.{Mark, KindMark}
use Rattle.jn_rules.specs.Exprs.{Typed, kind_of}
use Rattle.jn_rule_laws.specs.LawsOfForms.{PathKnown}
use Rattle.jn_expr.specs.declared.env.Env.{Env}
use Rattle.jn_expr.specs.declared.env.Value.{Value}
use Rattle.jn_expr.specs.Envs.{IsScope}
use Rattle.jn_expr.specs.Passing.{Grows}
use Rattle.jn_expr.specs.Told.{Adds}

-- a type, a path and a scope, as the rules have them
abbrev pub typed_in : List Ty → Scope → Value → Typed
typed_in pool scope v = record { ty = shown pool v.ty; path = v.path; scope = scope_in pool scope }

-- The type fits. Where there is a path, it is in the scope, with a bound as deep as the type's, and that is a class type.
pub record TypedFits (x : Typed) : Type 0 where
  pub type : TypeFits x.scope x.ty
  pub path : (q : ℕ) → x.path ≡ Some q → PathKnown x.scope q x.ty
  pub class : (q : ℕ) → x.path ≡ Some q → is_class x.ty ≡ true

-- the number of the value is in the pool, and its type fits; the scope has grown, and still fits
pub record IsValue (pool : List Ty) (old new : Scope) (v : Value) : Type 0 where
  pub scope : IsScope pool new
  pub number : InPool pool v.ty
  pub grows : Grows old new
  pub fits : TypedFits (typed_in pool new v)

-- the kind of a value of the type, where it has one
abbrev pub kind_marks : Option ValKind → List Mark
kind_marks None = []
kind_marks (Some k) = KindMark k ∷ []

-- the number shows the type, and its kind is noted
pub record IsProduced (t : Ty) (old new : Env) (id : TyId) : Type 0 where
  pub number : InPool new.pool id
  pub shows : shown new.pool id ≡ t
  pub added : Adds (kind_marks (kind_of t)) old.marks new.marks
