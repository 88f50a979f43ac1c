-- What a field behind a dot gives.
use Rattle.std.proofs.Common.{◌≡◌, List, [], ◌∷◌, Bool, true, false, Option, Some, None, Result, Err, ap, ◌∙◌, subst}
use Rattle.std.specs.Prelude.{ℕ}
use Rattle.jn_base.specs.declared.tree.Name.{Name}
use Rattle.jn_base.specs.declared.tree.Named.{Named}
use Rattle.jn_base.specs.declared.tree.Place.{Place}
use Rattle.jn_base.specs.declared.tree.Program.{Program}
use Rattle.jn_base.specs.declared.refusal.Rule.TheVariants as rule
use Rattle.jn_base.specs.declared.types.Masks.{Masks}
use Rattle.jn_base.specs.declared.types.Ty.{Ty}
use Rattle.jn_base.specs.declared.names.Resolved.{Resolved}
use Rattle.jn_base.specs.Scopes.{Scope as TypeScope}
use Rattle.jn_base.specs.Resolve.{is_class}
use Rattle.jn_base.specs.ResolveTypes.{mask_names}
use Rattle.jn_sem.specs.Values.{Masked}
use Rattle.jn_intern.specs.declared.pool.TyId.{TyId}
use Rattle.jn_intern.specs.declared.scope.Scope.{Scope}
use Rattle.jn_intern.specs.Pools.{Keeps, shown, scope_in}
use Rattle.jn_intern.proofs.Pools.{scope_kept}
use Rattle.jn_heads.specs.declared.fault.CheckFault.{CheckFault}
use Rattle.jn_rules.specs.Plans.{FoundField, MemberMark}
use Rattle.jn_rules.specs.Questions.{masks_of, Answers, Finds, IsFoundField}
use Rattle.jn_rules.specs.Exprs.{Here, Typed, Passing, plain, gives, mismatch, of_class, first_bound, path_of, put_in, field_type, field_gives, suffix_typed}
use Rattle.jn_expr.specs.Envs.{IsScope}
use Rattle.jn_expr.specs.Passing.{Shows, passing_in}
use Rattle.jn_expr.specs.Told.{Adds, PlanTold, FaultIs}
use Rattle.jn_expr.proofs.Leading.{leads_here, leads_ask, leads_want, leads_note, leads_told, leads_refused}

pub masked_is : (p : Program) (names : List Name) (m n : Masks) (f : Name) (b d : Bool) → names ≡ mask_names p → m ≡ n → b ≡ d → Answers (Masked names m f) b
    → Answers (Masked (mask_names p) n f) d
masked_is p names m n f b d e g h a =
    subst (Answers (Masked (mask_names p) n f)) h
    (subst (λ (k : Masks). Answers (Masked (mask_names p) k f) b) g (subst (λ (ns : List Name). Answers (Masked ns m f) b) e a))

-- the type of the field in the later pool
pub put_is : (p0 p1 p2 : List Ty) (scope : Scope) (q : ℕ) (ty put : TyId) (t : Ty) (r : Passing) → IsScope p0 scope → Keeps p0 p1 → passing_in p0 scope q ≡ r → shown p1 ty ≡ t
    → Shows p2 put (put_in (scope_in p1 scope) (0 ∷ []) (q ∷ []) (shown p1 ty)) → shown p2 put ≡ put_in r.scope (0 ∷ []) (r.path ∷ []) t
put_is p0 p1 p2 scope q ty put t r s k e h g =
    g.shows
    ∙ (ap (λ (u : Ty). put_in (scope_in p1 scope) (0 ∷ []) (q ∷ []) u) h
    ∙ (ap (λ (c : TypeScope). put_in c (0 ∷ []) (q ∷ []) t) (scope_kept scope s.known k)
    ∙ ap (λ (x : Passing). put_in x.scope (0 ∷ []) (x.path ∷ []) t) e))

module _ {B : Type 0} (p : Program) (show : B → Typed) (before now after : Resolved) (o : Result B CheckFault) (f : Named) (x : Typed) (c : FoundField) where
  pub field_told : Answers (Masked (mask_names p) (masks_of x.ty) f.name) false → Adds (MemberMark c.class ∷ []) before now → (t : Ty) (s : TypeScope)
      → t ≡ field_type c (path_of x.ty x) → s ≡ (path_of x.ty x).scope → PlanTold p (gives (plain t s)) show now after o
      → PlanTold p (field_gives f x c) show before after o
  field_told m d t s e h g =
      leads_told show after (leads_note (leads_ask (leads_here (field_gives f x c) before) false m) d) o
      (subst (λ (y : TypeScope). PlanTold p (gives (plain (field_type c (path_of x.ty x)) y)) show now after o) h
      (subst (λ (u : Ty). PlanTold p (gives (plain u s)) show now after o) e g))

module _ {B : Type 0} (p : Program) (show : B → Typed) (before after : Resolved) (h : Here) (f : Named) (at : Place) (x : Typed) (class : is_class x.ty ≡ true) where
  pub no_field_told : Finds (IsFoundField p x.scope x.ty f.name) None → (fault : CheckFault) → FaultIs fault (of_class rule.E16 (first_bound x) f f.name)
      → PlanTold p (suffix_typed h f None at x) show before after (Err fault)
  no_field_told none fault e =
      leads_refused show after (of_class rule.E16 (first_bound x) f f.name)
      (leads_ask (leads_want (is_class x.ty) (mismatch h at) class (leads_here (suffix_typed h f None at x) before)) None none) fault e

  pub found_field_told : (c : FoundField) → Finds (IsFoundField p x.scope x.ty f.name) (Some c) → (o : Result B CheckFault)
      → PlanTold p (field_gives f x c) show before after o → PlanTold p (suffix_typed h f None at x) show before after o
  found_field_told c there o g =
      leads_told show after
      (leads_ask (leads_want (is_class x.ty) (mismatch h at) class (leads_here (suffix_typed h f None at x) before)) (Some c) there) o g

pub finds_at : (p : Program) (s : TypeScope) (t u : Ty) (f : Name) (a b : Option FoundField) → t ≡ u → a ≡ b → Finds (IsFoundField p s t f) a → Finds (IsFoundField p s u f) b
finds_at p s t u f a b e g h = subst (Finds (IsFoundField p s u f)) g (subst (λ (y : Ty). Finds (IsFoundField p s y f) a) e h)
