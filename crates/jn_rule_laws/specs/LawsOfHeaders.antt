-- What headers say: a header as the meaning has it, what it grants, and what each program whose headers pass has.
use Rattle.std.specs.Prelude.{◌≡◌, ◌↔◌, List, Contains, true, false, Option, Some, None, Ok, Err}
use Rattle.jn_base.specs.declared.tree.Constraint.{Constraint}
use Rattle.jn_base.specs.declared.tree.TypeTerm.{TypeTerm}
use Rattle.jn_base.specs.declared.tree.Program.{Program}
use Rattle.jn_base.specs.declared.types.Ty.{Ty}
use Rattle.jn_base.specs.declared.types.Ty.TheVariants as ty
use Rattle.jn_base.specs.declared.names.Var.{Var}
use Rattle.jn_base.specs.declared.refusal.Refusal.{Refusal}
use Rattle.jn_base.specs.Paths.{Path}
use Rattle.jn_base.specs.Scopes.{Scope}
use Rattle.jn_base.specs.Members.{MethodAt, FieldAt}
use Rattle.jn_base.specs.declared.tree.Name.{Name}
use Rattle.jn_base.specs.declared.tree.Method.{Method}
use Rattle.jn_base.specs.declared.tree.Field.{Field}
use Rattle.jn_sem.specs.Terms.{TypeIs, FieldTypeIs}
use Rattle.jn_sem.specs.Does.{Body, AreParams}
use Rattle.jn_rules.specs.Plans.{Pledge, Target}
use Rattle.jn_rules.specs.Questions.{header_site, ConstraintGives, IsGrant, Gives}
use Rattle.jn_rules.specs.Headers.{site_in, Header, header_typed, header_plan}
use Rattle.jn_rules.specs.Exprs.{Here, header_grants}

-- ---- a header as the meaning has it

-- the result of a body: void, or a type in which the parameters are in scope
abbrev pub ResultIs : Program → Body → List Var → Option TypeTerm → Ty → Type 0
ResultIs p b vars None t = t ≡ ty.Void
ResultIs p b vars (Some r) t = TypeIs p (site_in b vars) r t

pub record IsHeader (p : Program) (b : Body) (x : Header) : Type 0 where
  pub params : AreParams p b x.vars
  pub result : ResultIs p b x.vars b.method.result x.result

-- the plan of a header gives it exactly where it is the one with which the meaning calls the body
abbrev pub HeadersAreTheMeanings : Type 0
HeadersAreTheMeanings = (p : Program) (b : Body) (x : Header) → Gives p (header_typed b) (Ok x) ↔ IsHeader p b x

-- ---- what a header grants

-- a constraint of the method that grants the view change
pub record GrantedBy (p : Program) (h : Here) (s : Scope) (t : Ty) (u : Target) : Type 0 where
  pub constraint : Constraint
  pub among : Contains h.method.sharing constraint
  pub pledge : Pledge
  pub is : ConstraintGives p (header_site h.class h.method.name.name) constraint (Ok pledge)
  pub grants : IsGrant p s pledge t u

-- a constraint of the method that doesn't resolve
pub record Unresolved (p : Program) (h : Here) (r : Refusal) : Type 0 where
  pub constraint : Constraint
  pub among : Contains h.method.sharing constraint
  pub is : ConstraintGives p (header_site h.class h.method.name.name) constraint (Err r)

-- the answer says whether some constraint grants it; it is refused only where some constraint doesn't resolve
pub record GrantsOf (p : Program) (h : Here) (s : Scope) (t : Ty) (u : Target) : Type 0 where
  pub granted : Gives p (header_grants h s t u) (Ok true) → GrantedBy p h s t u
  pub not_granted : Gives p (header_grants h s t u) (Ok false) → GrantedBy p h s t u → ⊥
  pub refused : (r : Refusal) → Gives p (header_grants h s t u) (Err r) → Unresolved p h r

abbrev pub HeadersGrant : Type 0
HeadersGrant = (p : Program) (h : Here) (s : Scope) (t : Ty) (u : Target) → GrantsOf p h s t u

-- ---- what headers that pass have

-- Each declared method has a header, each of its constraints resolves, and each declared field has a type.
pub record HeadersOf (p : Program) : Type 0 where
  pub methods : (R : Path) (m : Name) (x : Method) → MethodAt p R m x
      → (c : Header) × Gives p (header_typed (record { class = R; method = x })) (Ok c)
  pub constraints : (R : Path) (m : Name) (x : Method) (c : Constraint) → MethodAt p R m x → Contains x.sharing c
      → (k : Pledge) × ConstraintGives p (header_site R x.name.name) c (Ok k)
  pub fields : (R : Path) (f : Name) (x : Field) → FieldAt p R f x → (t : Ty) × FieldTypeIs p R x.name.name x.ty t

abbrev pub HeadersThatPass : Type 0
HeadersThatPass = (p : Program) → Gives p (header_plan p) (Ok tt) → HeadersOf p
