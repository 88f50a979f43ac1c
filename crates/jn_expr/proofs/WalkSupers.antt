-- Calls of `super`, before their arguments and behind them.
use Rattle.std.proofs.Common.{◌≡◌, List, Result, Ok, Err, sym, ap, ◌∙◌, subst}
use Rattle.jn_base.specs.declared.tree.Name.{Name}
use Rattle.jn_base.specs.declared.tree.Named.{Named}
use Rattle.jn_base.specs.declared.tree.Method.{Method}
use Rattle.jn_base.specs.declared.tree.Expr.{Expr}
use Rattle.jn_base.specs.declared.tree.Term.{Term}
use Rattle.jn_base.specs.declared.tree.Program.{Program}
use Rattle.jn_base.specs.declared.types.Atom.{Atom as ShownAtom}
use Rattle.jn_base.specs.declared.names.Role.TheVariants as role
use Rattle.jn_base.specs.declared.names.Resolved.{Resolved}
use Rattle.jn_base.specs.declared.names.Var.{Var}
use Rattle.jn_base.specs.Paths.{Path}
use Rattle.jn_base.specs.Scopes.{Scope as TypeScope}
use Rattle.jn_sem.specs.Does.{Body}
use Rattle.jn_heads.specs.declared.fault.CheckFault.{CheckFault}
use Rattle.jn_heads.specs.declared.fault.CheckFault.TheVariants.{Refused, Memory}
use Rattle.jn_rules.specs.Plans.{AtomMark, OfTerm, Plan, note, ask, taken}
use Rattle.jn_rules.specs.Exprs.{Here, Typed, Typing, site_here, super_typed, super_gives}
use Rattle.jn_expr.specs.Envs.{here_at}
use Rattle.jn_expr.specs.Told.{PlanTold}
use Rattle.jn_expr.specs.Steps.{Leads, LeadsTold}
use Rattle.jn_expr.specs.Calling.{body_of, OwnerLeads}
use Rattle.jn_expr.specs.Supering.{super_asked}
use Rattle.jn_rules.specs.Forms.{typed_args}
use Rattle.jn_expr.proofs.Leading.{leads_leads, leads_told}

-- from where a part was done
pub leads_owner : (p : Program) (n : Name) (whole rest : Plan Typed) (left : Body → Plan Typed) (m0 m1 m2 : Resolved) → Leads p whole rest m0 m1 → (o : Result Path CheckFault)
    → OwnerLeads p n rest left m1 m2 o → OwnerLeads p n whole left m0 m2 o
leads_owner p n whole rest left m0 m1 m2 l (Ok Q) g = λ x at. leads_leads (λ (u : Unit {0}). left (record { class = Q; method = x })) m2 l (Ok tt) (g x at)
leads_owner p n whole rest left m0 m1 m2 l (Err (Refused r)) g = l.gives r g
leads_owner p n whole rest left m0 m1 m2 l (Err Memory) g = tt

module _ (p : Program) (Q : Path) (m : Method) (t : Term) (name : Named) (es : List (Expr × Typing)) (vars : List Var) (s : TypeScope) (m0 m1 m2 : Resolved) where
  abbrev super_plan : Plan Typed
  super_plan = ask (OfTerm role.Super (site_here (here_at Q m vars)) t) (taken (super_typed (here_at Q m vars) t name es s))

  abbrev super_term : (ShownAtom → Plan Typed) → Plan Typed
  super_term go = ask (OfTerm role.Super (site_here (here_at Q m vars)) t) (taken (λ a. note (AtomMark a) (go a)))

  pub super_term_fault : (f : CheckFault) → ((go : ShownAtom → Plan Typed) → LeadsTold p (super_term go) go m0 m1 (Err f))
      → OwnerLeads p name.name super_plan (super_gives (here_at Q m vars) name es s) m0 m2 (Err f)
  super_term_fault (Refused r) told = told (super_asked (here_at Q m vars) t name es s)
  super_term_fault Memory told = tt

  pub super_begun : (a : ShownAtom) (vars1 : List Var) (s1 : TypeScope) → vars1 ≡ vars → s1 ≡ s → ((go : ShownAtom → Plan Typed) → Leads p (super_term go) (go a) m0 m1)
      → (o : Result Path CheckFault)
      → OwnerLeads p name.name (super_asked (here_at Q m vars1) t name es s1 a) (super_gives (here_at Q m vars1) name es s1) m1 m2 o
      → OwnerLeads p name.name super_plan (super_gives (here_at Q m vars) name es s) m0 m2 o
  super_begun a vars1 s1 ev e told o g =
      leads_owner p name.name super_plan (super_asked (here_at Q m vars) t name es s a) (super_gives (here_at Q m vars) name es s) m0 m1 m2
      (told (super_asked (here_at Q m vars) t name es s)) o
      (subst (λ (vs : List Var). OwnerLeads p name.name (super_asked (here_at Q m vs) t name es s a) (super_gives (here_at Q m vs) name es s) m1 m2 o) ev
      (subst (λ (c : TypeScope). OwnerLeads p name.name (super_asked (here_at Q m vars1) t name es c a) (super_gives (here_at Q m vars1) name es c) m1 m2 o) e g))

-- ---- its body, where it was found

pub owner_fault : {B : Type 0} (p : Program) (n : Name) (whole : Plan Typed) (left : Body → Plan Typed) (m0 m1 : Resolved) (show : B → Typed) (m2 : Resolved) (f : CheckFault)
    → OwnerLeads p n whole left m0 m1 (Err f) → PlanTold p whole show m0 m2 (Err f)
owner_fault p n whole left m0 m1 show m2 (Refused r) g = g
owner_fault p n whole left m0 m1 show m2 Memory g = tt

pub owner_told : {B : Type 0} (p : Program) (Q : Path) (m : Method) (name : Named) (args : List Expr) (vars : List Var) (s : TypeScope) (m0 m1 m2 : Resolved) (whole : Plan Typed)
    (owner : Path) (method : Method) (vars1 : List Var) (s1 : TypeScope) → vars1 ≡ vars → s1 ≡ s
    → Leads p whole (super_gives (here_at Q m vars) name (typed_args (here_at Q m vars) args) s (body_of owner method)) m0 m1
    → (show : B → Typed) (o : Result B CheckFault)
    → PlanTold p (super_gives (here_at Q m vars1) name (typed_args (here_at Q m vars1) args) s1 (body_of owner method)) show m1 m2 o
    → PlanTold p whole show m0 m2 o
owner_told p Q m name args vars s m0 m1 m2 whole owner method vars1 s1 ev es l show o g =
    leads_told show m2 l o
    (subst (λ (vs : List Var). PlanTold p (super_gives (here_at Q m vs) name (typed_args (here_at Q m vs) args) s (body_of owner method)) show m1 m2 o) ev
    (subst (λ (c : TypeScope). PlanTold p (super_gives (here_at Q m vars1) name (typed_args (here_at Q m vars1) args) c (body_of owner method)) show m1 m2 o) es g))
