-- What single forms give.
use Rattle.std.proofs.Common.{◌≡◌, List, Bool, true, Option, Some, None, Result, sym, ap, ◌∙◌, subst}
use Rattle.std.specs.Prelude.{ℕ, [], ◌∷◌, cond, ◌&&◌}
use Rattle.jn_base.specs.declared.tree.Place.{Place}
use Rattle.jn_base.specs.declared.tree.Link.{Link}
use Rattle.jn_base.specs.declared.tree.Program.{Program}
use Rattle.jn_base.specs.declared.names.Resolved.{Resolved}
use Rattle.jn_base.specs.declared.types.Ty.{Ty}
use Rattle.jn_base.specs.declared.types.Ty.TheVariants as ty
use Rattle.jn_base.specs.Scopes.{Scope as TypeScope}
use Rattle.jn_intern.specs.declared.pool.TyId.{TyId}
use Rattle.jn_intern.specs.declared.scope.Scope.{Scope}
use Rattle.jn_intern.specs.Pools.{Keeps, shown, scope_in}
use Rattle.jn_intern.proofs.Pools.{scope_kept}
use Rattle.jn_heads.specs.declared.fault.CheckFault.{CheckFault}
use Rattle.jn_base.specs.declared.tree.Name.{Name}
use Rattle.jn_base.specs.declared.names.Var.{Var}
use Rattle.jn_base.specs.Resolve.{is_class}
use Rattle.jn_expr.specs.declared.values.Known.{Known}
use Rattle.jn_expr.specs.Variables.{IsKnown, KnownIs, known_typed}
use Rattle.jn_rules.specs.Plans.{VarMark}
use Rattle.jn_rules.specs.Exprs.{Here, Typed, plain, of_path, var_typed, var_gives, gives, mismatch, is_int, is_bool, takes, takes_both, operator_type}
use Rattle.jn_expr.specs.declared.env.Env.{Env}
use Rattle.jn_expr.specs.Envs.{IsScope, Stays}
use Rattle.jn_expr.specs.Told.{Adds, Went, PlanTold}
use Rattle.jn_expr.specs.Values.{typed_in, TypedFits, IsValue, IsProduced}
use Rattle.jn_expr.specs.Steps.{inverted, negated, operated}
use Rattle.jn_expr.proofs.Leading.{leads_here, leads_note, leads_want, leads_told, gives_went}
use Rattle.jn_expr.proofs.Scopes.{scope_stays, grows_none}

-- ---- a type that was produced

pub typed_is : (t : Ty) (path : Option ℕ) (old new : List Ty) (scope : Scope) (id : TyId) → IsScope old scope → Keeps old new → shown new id ≡ t
    → (let x : Typed = record { ty = t; path = path; scope = scope_in old scope } in x ≡ typed_in new scope (record { ty = id; path = path }))
typed_is t path old new scope id s k e =
    ap (λ (u : Ty). let x : Typed = record { ty = u; path = path; scope = scope_in old scope } in x) (sym e)
    ∙ ap (λ (c : TypeScope). let x : Typed = record { ty = shown new id; path = path; scope = c } in x) (sym (scope_kept scope s.known k))

pub produced_went : (p : Program) (t : Ty) (path : Option ℕ) (old new : Env) (scope : Scope) (id : TyId) → IsScope old.pool scope → IsProduced t old new id
    → Stays old new
    → (let x : Typed = record { ty = t; path = path; scope = scope_in old.pool scope } in
    Went p (gives x) (typed_in new.pool scope (record { ty = id; path = path })) old.marks new.marks)
produced_went p t path old new scope id s h k =
    let x : Typed = record { ty = t; path = path; scope = scope_in old.pool scope } in
    subst (λ (y : Typed). Went p (gives x) y old.marks new.marks) (typed_is t path old.pool new.pool scope id s k.pool h.shows)
    (gives_went p x old.marks new.marks h.added)

pub produced_value : (t : Ty) (path : Option ℕ) (old new : Env) (scope : Scope) (id : TyId) → IsScope old.pool scope → IsProduced t old new id
    → Stays old new → (let x : Typed = record { ty = t; path = path; scope = scope_in old.pool scope } in TypedFits x)
    → IsValue new.pool scope scope (record { ty = id; path = path })
produced_value t path old new scope id s h k f = record {
  scope = scope_stays s k.pool;
  number = h.number;
  grows = grows_none scope;
  fits = subst TypedFits (typed_is t path old.pool new.pool scope id s k.pool h.shows) f;
}

-- ---- operators

module _ (p : Program) {B : Type 0} (show : B → Typed) (before after : Resolved) (o : Result B CheckFault) where
  pub inverted_told : (h : Here) (at : Place) (x : Typed) → is_bool x.ty ≡ true → PlanTold p (gives (plain ty.Bool x.scope)) show before after o
      → PlanTold p (inverted h at x) show before after o
  inverted_told h at x e t = leads_told show after (leads_want (is_bool x.ty) (mismatch h at) e (leads_here (inverted h at x) before)) o t

  pub negated_told : (h : Here) (at : Place) (x : Typed) → is_int x.ty ≡ true → PlanTold p (gives (plain ty.Int x.scope)) show before after o
      → PlanTold p (negated h at x) show before after o
  negated_told h at x e t = leads_told show after (leads_want (is_int x.ty) (mismatch h at) e (leads_here (negated h at x) before)) o t

  pub operated_told : (h : Here) (l : Link) (t : Ty) (y : Typed) → takes l.op y.ty ≡ true → takes_both l.op t y.ty ≡ true
      → PlanTold p (gives (plain (operator_type l.op) y.scope)) show before after o → PlanTold p (operated h l t y) show before after o
  operated_told h l t y e f g =
      leads_told show after
      (leads_want (takes_both l.op t y.ty) (mismatch h l.at) f
      (leads_want (takes l.op y.ty) (mismatch h l.right.at) e (leads_here (operated h l t y) before)))
      o g

-- ---- variables

known_is : (v : Var) (k : Known) (s : TypeScope) → IsKnown v k → known_typed k s ≡ var_typed v s
known_is v k s i =
    ap (λ (b : Bool). cond b (of_path k.path s) (plain k.ty s)) i.is_path
    ∙ (ap (λ (q : ℕ). cond (v.fixed && is_class v.ty) (of_path q s) (plain k.ty s)) i.path
    ∙ ap (λ (t : Ty). cond (v.fixed && is_class v.ty) (of_path v.path s) (plain t s)) i.ty)

pub var_told : {B : Type 0} (p : Program) (show : B → Typed) (before now after : Resolved) (o : Result B CheckFault) (h : Here) (at : Place) (x : Name)
    (s : TypeScope) (v : Option Var) (k : Known) → KnownIs v (Some k) → Adds (VarMark k.path ∷ []) before now → PlanTold p (gives (known_typed k s)) show now after o
    → PlanTold p (var_gives h at x s v) show before after o
var_told p show before now after o h at x s None k i d t = absurd i
var_told p show before now after o h at x s (Some v) k i d t =
    leads_told show after
    (leads_note (leads_here (var_gives h at x s (Some v)) before) (subst (λ (q : ℕ). Adds (VarMark q ∷ []) before now) i.path d)) o
    (subst (λ (y : Typed). PlanTold p (gives y) show now after o) (known_is v k s i) t)
