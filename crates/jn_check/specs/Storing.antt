-- What declarations of locals and assignments do to what stands before them.
use Rattle.std.specs.Prelude.{◌≡◌, ◌<◌, ◌+◌, ◌++◌, [], ◌∷◌, Bool, List, Option, Some, None}
use Rattle.jn_base.specs.declared.tree.Name.{Name}
use Rattle.jn_base.specs.declared.tree.Named.{Named}
use Rattle.jn_base.specs.declared.tree.Place.{Place}
use Rattle.jn_base.specs.declared.types.Ty.{Ty}
use Rattle.jn_base.specs.declared.names.Var.{Var}
use Rattle.jn_base.specs.declared.refusal.Rule.TheVariants as rule
use Rattle.jn_base.specs.Scopes.{Scope}
use Rattle.jn_base.specs.Fits.{TypeFits}
use Rattle.jn_base.specs.Resolve.{is_class}
use Rattle.jn_sem.specs.Does.{var}
use Rattle.jn_intern.specs.declared.pool.TyId.{TyId}
use Rattle.jn_intern.specs.declared.scope.Scope.{Scope as NumberScope}
use Rattle.jn_intern.specs.Pools.{InPool, shown, scope_in}
use Rattle.jn_rules.specs.Plans.{FoundField, OfField, MemberMark, Plan, note, ask, wants, found_or}
use Rattle.jn_rules.specs.Exprs.{Here, Typed, path_of, mismatch, of_class, first_bound, field_type}
use Rattle.jn_rules.specs.Stmts.{Before}
use Rattle.jn_expr.specs.declared.env.Env.{Env}
use Rattle.jn_expr.specs.declared.env.Value.{Value}
use Rattle.jn_expr.specs.Envs.{IsScope}
use Rattle.jn_expr.specs.Passing.{Shows, Grows}
use Rattle.jn_expr.specs.Told.{Adds}
use Rattle.jn_expr.specs.Values.{typed_in}
use Rattle.jn_check.specs.declared.assign.Assigned.{Assigned}
use Rattle.jn_check.specs.declared.state.Locals.{Locals}

-- One more local, of the next number, which is below 256, and with this type, stands behind the variables and at the end of both scopes.
pub record AddsLocal (old : Env) (x : Locals) (name : Name) (fixed : Bool) (id : TyId) (new : Env) (y : Locals)
    : Type 0 where
  pub pool : new.pool ≡ old.pool
  pub marks : new.marks ≡ old.marks
  pub vars : new.vars.list ≡ old.vars.list ++ var name x.next fixed (shown old.pool id) ∷ []
  pub declared : y.declared.binds.items ≡ x.declared.binds.items ++ record { path = x.next; ty = id } ∷ []
  pub scope : y.scope.binds.items ≡ x.scope.binds.items ++ record { path = x.next; ty = id } ∷ []
  pub next : y.next ≡ x.next + 1
  pub room : x.next < 256

-- what an assignment asks of its variable
pub record IsAssigned (pool : List Ty) (v : Var) (k : Assigned) : Type 0 where
  pub path : k.path ≡ v.path
  pub fixed : k.fixed ≡ v.fixed
  pub ty : Shows pool k.ty v.ty

abbrev pub AssignedIs : List Ty → Option Var → Option Assigned → Type 0
AssignedIs pool None None = Unit {0}
AssignedIs pool None (Some k) = ⊥
AssignedIs pool (Some v) None = ⊥
AssignedIs pool (Some v) (Some k) = IsAssigned pool v k

-- Behind the receiver of `r.f = e;`: E18 where it is of no class type, E16 where it has no such field; and then `go`
-- with the scope of the receiver's path and the field's type.
abbrev pub stored_in : Here → Place → Named → Typed → (Scope → Ty → Plan Before) → Plan Before
stored_in h at f r go =
    wants (is_class r.ty) (mismatch h at)
    (ask (OfField r.scope r.ty f.name) (found_or (of_class rule.E16 (first_bound r) f f.name)
    (λ c. note (MemberMark c.class) (go (path_of r.ty r).scope (field_type c (path_of r.ty r))))))

-- the pool has the number of a type that fits, and the scope has grown and still fits
pub record IsSlot (pool : List Ty) (before after : NumberScope) (id : TyId) : Type 0 where
  pub number : InPool pool id
  pub fits : TypeFits (scope_in pool after) (shown pool id)
  pub scope : IsScope pool after
  pub grows : Grows before after

-- The number is that of the field's type, with the receiver's path for `this`, its own or a fresh one; the class that
-- declares the field is noted.
pub record IsFieldAt (old : Env) (before : NumberScope) (v : Value) (c : FoundField) (new : Env) (after : NumberScope)
    (id : TyId) : Type 0 where
  pub slot : IsSlot new.pool before after id
  pub shows : shown new.pool id ≡ field_type c (path_of (shown old.pool v.ty) (typed_in old.pool before v))
  pub is : scope_in new.pool after ≡ (path_of (shown old.pool v.ty) (typed_in old.pool before v)).scope
  pub added : Adds (MemberMark c.class ∷ []) old.marks new.marks
