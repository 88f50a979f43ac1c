-- The parts of `super`.
use Rattle.std.proofs.Common.{◌≡◌, ◌<◌, ◌+◌, ℕ, List, [], length, drop, get_or, Bool, true, false, Some, None, Result, Ok, Err, refl, sym, ap, ◌∙◌, subst}
use Rattle.jn_base.specs.declared.tree.Name.{Name}
use Rattle.jn_base.specs.declared.tree.Named.{Named}
use Rattle.jn_base.specs.declared.tree.Term.{Term}
use Rattle.jn_base.specs.declared.tree.Expr.{Expr}
use Rattle.jn_base.specs.declared.tree.Constraint.{Constraint}
use Rattle.jn_base.specs.declared.tree.Program.{Program}
use Rattle.jn_base.specs.declared.refusal.Refusal.{Refusal}
use Rattle.jn_base.specs.declared.refusal.Rule.TheVariants as rule
use Rattle.jn_base.specs.declared.types.Atom.{Atom as ShownAtom}
use Rattle.jn_base.specs.declared.types.Ty.{Ty}
use Rattle.jn_base.specs.declared.names.Resolved.{Resolved}
use Rattle.jn_base.specs.Paths.{Path}
use Rattle.jn_base.specs.Atoms.{atom_of}
use Rattle.jn_base.specs.Scopes.{Scope as TypeScope, bound}
use Rattle.jn_sem.specs.Does.{Body, IsBody}
use Rattle.jn_sem.specs.Below.{Below}
use Rattle.jn_sem.specs.NormalFunction.{normal_type}
use Rattle.jn_heads.specs.declared.fault.CheckFault.{CheckFault}
use Rattle.jn_heads.specs.declared.fault.CheckFault.TheVariants.{Refused, Memory}
use Rattle.jn_heads.specs.declared.params.Header.{Header as CodeHeader}
use Rattle.jn_heads.specs.Params.{header_in}
use Rattle.jn_heads.specs.Told.{itself}
use Rattle.jn_heads.specs.Sides.{PledgeTold}
use Rattle.jn_homes.proofs.Places.{at_index}
use Rattle.jn_rules.proofs.PlanLaws.{then_refuses}
use Rattle.jn_rules.specs.Plans.{Target, target_type, Pledge, OfConstraint, OfBody, Plan, refuse, ask, then_do, wants, found_or}
use Rattle.jn_rules.specs.Questions.{Answers, Finds, Means, Notes}
use Rattle.jn_rules.specs.Headers.{Header}
use Rattle.jn_rules.specs.Exprs.{Here, Typed, Typing, mismatch, of_class, path_type, of_atom, super_gives, call_typed, constraints_granted, result_gives, header_grants, of_name}
use Rattle.jn_expr.specs.declared.env.Call.{Call}
use Rattle.jn_expr.specs.declared.env.Env.{Env}
use Rattle.jn_expr.specs.Envs.{Parts, Stays}
use Rattle.jn_table.specs.declared.table.Table.{Table}
use Rattle.jn_intern.specs.Pools.{Keeps}
use Rattle.jn_expr.specs.Told.{FaultIs, QuietTold}
use Rattle.jn_expr.specs.Found.{LeastAt}
use Rattle.jn_expr.specs.Steps.{Leads, LeadsTold, entered}
use Rattle.jn_expr.specs.Calling.{body_of, OwnerLeads, Begins}
use Rattle.jn_expr.specs.Supering.{super_asked, super_left, constraint_asked}
use Rattle.jn_expr.proofs.Leading.{leads_here, leads_ask, leads_want, leads_is, leads_quiet, leads_leads, leads_of_fault}

-- ---- the body

no_body : (p : Program) (B : Path) (m : Name) → LeastAt p B m None → Finds (IsBody p B m) None
no_body p B m none b i = none (b.class, i.least.among)

module _ (p : Program) (h : Here) (t : Term) (m : Named) (es : List (Expr × Typing)) (s : TypeScope) (a : ShownAtom) (before : Resolved) where
  abbrev whole : Plan Typed
  whole = super_asked h t m es s a

  abbrev ThisBelow : Type 0
  ThisBelow = Below p s (path_type s 0) (normal_type s (of_atom a))

  owner_refused : (r : Refusal) → Leads p whole (refuse r) before before → (f : CheckFault) → FaultIs f r
      → OwnerLeads p m.name whole (super_gives h m es s) before before (Err f)
  owner_refused r l (Refused q) e = l.gives q (ap Err e)
  owner_refused r l Memory e = tt

  pub not_below : (r : Bool) → r ≡ false → Answers ThisBelow r → (f : CheckFault) → FaultIs f (mismatch h t.at)
      → OwnerLeads p m.name whole (super_gives h m es s) before before (Err f)
  not_below r i q f e = owner_refused (mismatch h t.at) (leads_ask (leads_here whole before) false (subst (Answers ThisBelow) i q)) f e

  body_asked : (r : Bool) → r ≡ true → Answers ThisBelow r → Leads p whole
      (ask (OfBody (bound s (atom_of a)) m.name) (found_or (of_class rule.E16 (bound s (atom_of a)) m m.name) (super_gives h m es s))) before before
  body_asked r i q = leads_want true (mismatch h t.at) refl (leads_ask (leads_here whole before) true (subst (Answers ThisBelow) i q))

  pub no_body_told : (r : Bool) → r ≡ true → Answers ThisBelow r → (B : Path) → B ≡ bound s (atom_of a) → LeastAt p B m.name None
      → (f : CheckFault) → FaultIs f (of_class rule.E16 B m m.name)
      → OwnerLeads p m.name whole (super_gives h m es s) before before (Err f)
  no_body_told r i q B e none f g =
      owner_refused (of_class rule.E16 (bound s (atom_of a)) m m.name)
      (leads_ask (body_asked r i q) None (subst (λ (C : Path). Finds (IsBody p C m.name) None) e (no_body p B m.name none))) f
      (subst (λ (C : Path). FaultIs f (of_class rule.E16 C m m.name)) e g)

  pub body_told : (r : Bool) → r ≡ true → Answers ThisBelow r → (B : Path) → B ≡ bound s (atom_of a) → (Q : Path) → LeastAt p B m.name (Some Q)
      → OwnerLeads p m.name whole (super_gives h m es s) before before (Ok Q)
  body_told r i q B e Q least = λ x at.
      leads_ask (body_asked r i q) (Some (body_of Q x)) (subst (λ (C : Path). IsBody p C m.name (body_of Q x)) e (record { least = least; at = at }))

-- ---- the call

module _ (p : Program) (h : Here) (m : Named) (es : List (Expr × Typing)) (s : TypeScope) (b : Body) (n : ℕ) (e : length es ≡ n) (before after : Resolved) (pool : List Ty) where
  abbrev super_go : Header → Plan Typed
  super_go c =
      then_do (call_typed h c es (record { path = 0; scope = s })) (λ x.
      constraints_granted h b m x.scope b.method.sharing (result_gives c x))

  abbrev left_in : Call → Plan Typed
  left_in call = super_left h m es s b (header_in pool call.header) call.paths.items

  pub super_fault : (f : CheckFault)
      → ((go : Header → Plan Typed) → LeadsTold p (entered h b m.at n go) (λ (c : CodeHeader). go (header_in pool c)) before after (Err f))
      → (later : Resolved) → LeadsTold p (super_gives h m es s b) left_in before later (Err f)
  super_fault f told later =
      leads_of_fault p (super_gives h m es s b) before (λ (c : CodeHeader). super_go (header_in pool c)) left_in after later f
      (subst (λ (k : ℕ). LeadsTold p (entered h b m.at k super_go) (λ (c : CodeHeader). super_go (header_in pool c)) before after (Err f)) (sym e) (told super_go))

  pub super_entered : (header : CodeHeader) (call : Call) → Begins header 0 call
      → ((go : Header → Plan Typed) → Leads p (entered h b m.at n go) (go (header_in pool header)) before after)
      → Leads p (super_gives h m es s b) (left_in call) before after
  super_entered header call g told =
      leads_is
      (ap (λ (l : List ℕ). super_left h m es s b (header_in pool header) l) (sym g.paths)
      ∙ ap (λ (c : CodeHeader). super_left h m es s b (header_in pool c) call.paths.items) (sym g.kept))
      (subst (λ (k : ℕ). Leads p (entered h b m.at k super_go) (super_go (header_in pool header)) before after) (sym e) (told super_go))

-- ---- one constraint of the body that is called

module _ (p : Program) (h : Here) (b : Body) (m : Named) (s : TypeScope) (k : Constraint) (go : Plan Typed) (before : Resolved) where
  abbrev asked : Plan Typed
  asked = constraint_asked h b m s k go

  abbrev wanted : Bool → Plan Typed
  wanted ok = wants ok (of_name rule.E25 h m.at m.name) go

  pub constraint_fault : (f : CheckFault) → PledgeTold p b.class b.method.name.name k (Err f) → {B : Type 0} (left : B → Plan Typed) (later : Resolved)
      → LeadsTold p asked left before later (Err f)
  constraint_fault (Refused r) g left later = (Err r, g, refl)
  constraint_fault Memory g left later = tt

  module _ (x : Pledge) (is : Means p (OfConstraint b.class b.method.name.name k) (Ok x)) where
    abbrev granting : Plan Bool
    granting = header_grants h s (normal_type s (target_type x.from)) x.to

    pledged : Leads p asked (then_do granting wanted) before before
    pledged = leads_ask (leads_here asked before) (Ok x) is

    pub grants_fault : (f : CheckFault) → QuietTold {B = Bool} p granting itself (Err f) → {B : Type 0} (left : B → Plan Typed) (later : Resolved)
        → LeadsTold p asked left before later (Err f)
    grants_fault (Refused r) g left later = pledged.gives r (then_refuses p granting wanted r g)
    grants_fault Memory g left later = tt

    denied : Notes p granting [] false → Leads p asked (refuse (of_name rule.E25 h m.at m.name)) before before
    denied n = leads_quiet granting wanted false pledged n

    pub not_granted : Notes p granting [] false → (f : CheckFault) → FaultIs f (of_name rule.E25 h m.at m.name) → {B : Type 0} (left : B → Plan Typed) (later : Resolved)
        → LeadsTold p asked left before later (Err f)
    not_granted n (Refused q) e left later = (denied n).gives q (ap Err e)
    not_granted n Memory e left later = tt

    pub is_granted : Notes p granting [] true → Leads p asked go before before
    is_granted n = leads_want true (of_name rule.E25 h m.at m.name) refl (leads_quiet granting wanted true pledged n)

pub stays_moved : (e : Env) (t : Table) (pool : List Ty) → t ≡ e.table → Keeps e.pool pool
    → Stays e (record { table = t; members = e.members; groups = e.groups; slots = e.slots; pool = pool; judge = e.judge; masks = e.masks; vars = e.vars; class = e.class; method = e.method; marks = e.marks })
stays_moved e t pool i k = record {
  same = ap (λ (x : Table).
      let y : Parts = record { table = x; members = e.members; groups = e.groups; slots = e.slots; masks = e.masks.items; vars = e.vars.list; class = e.class; method = e.method } in y) i;
  pool = k;
}

pub grants_at : (p : Program) (h : Here) (s1 s : TypeScope) (t1 t : Ty) (u : Target) (o : Result Bool CheckFault) → s1 ≡ s → t1 ≡ t
    → QuietTold {B = Bool} p (header_grants h s1 t1 u) itself o → QuietTold {B = Bool} p (header_grants h s t u) itself o
grants_at p h s1 s t1 t u o e f g =
    subst (λ (y : Ty). QuietTold {B = Bool} p (header_grants h s y u) itself o) f
    (subst (λ (y : TypeScope). QuietTold {B = Bool} p (header_grants h y t1 u) itself o) e g)

-- ---- one constraint of the called body after the other

module _ (p : Program) (h : Here) (b : Body) (m : Named) (s : TypeScope) (all : List Constraint) (go : Plan Typed) (before : Resolved) where
  abbrev asked_all : Plan Typed
  asked_all = constraints_granted h b m s all go

  abbrev pub asked_from : ℕ → Plan Typed
  asked_from i = constraints_granted h b m s (drop i all) go

  pub none_granted : (r : Resolved) → r ≡ before → Leads p asked_all asked_all before r
  none_granted r e = subst (λ (x : Resolved). Leads p asked_all asked_all before x) (sym e) (leads_here asked_all before)

  pub all_granted : (i : ℕ) → drop i all ≡ [] → Leads p asked_all (asked_from i) before before → (r : Resolved) → r ≡ before
      → Leads p asked_all go before r
  all_granted i e l r f =
      subst (λ (x : Resolved). Leads p asked_all go before x) (sym f)
      (leads_is (ap (λ (ks : List Constraint). constraints_granted h b m s ks go) e) l)

  module _ (i : ℕ) (k : Constraint) (l : i < length all) (e : k ≡ get_or all i k) (so : Leads p asked_all (asked_from i) before before) where
    next_asked : Leads p asked_all (constraint_asked h b m s k (asked_from (i + 1))) before before
    next_asked = leads_is (ap (λ (ks : List Constraint). constraints_granted h b m s ks go) (at_index all i k l e)) so

    module _ (h1 : Here) (s1 : TypeScope) (g : h1 ≡ h) (f : s1 ≡ s) (r : Resolved) (before_is : r ≡ before) where
      moved : {A : Type 0} (o : Result A CheckFault) (after : Resolved)
          → LeadsTold p (constraint_asked h1 b m s1 k (asked_from (i + 1))) (λ (u : A). asked_from (i + 1)) r after o
          → LeadsTold p (constraint_asked h b m s k (asked_from (i + 1))) (λ (u : A). asked_from (i + 1)) before after o
      moved {A} o after t =
          subst (λ (x : Resolved). LeadsTold p (constraint_asked h b m s k (asked_from (i + 1))) (λ (u : A). asked_from (i + 1)) x after o) before_is
          (subst (λ (y : TypeScope). LeadsTold p (constraint_asked h b m y k (asked_from (i + 1))) (λ (u : A). asked_from (i + 1)) r after o) f
          (subst (λ (y : Here). LeadsTold p (constraint_asked y b m s1 k (asked_from (i + 1))) (λ (u : A). asked_from (i + 1)) r after o) g t))

      pub granted_next : (after : Resolved) → after ≡ r
          → Leads p (constraint_asked h1 b m s1 k (asked_from (i + 1))) (asked_from (i + 1)) r after
          → Leads p asked_all (asked_from (i + 1)) before before
      granted_next after is t =
          subst (λ (x : Resolved). Leads p asked_all (asked_from (i + 1)) before x) (is ∙ before_is)
          (leads_leads {B = Unit {0}} (λ u. asked_from (i + 1)) after next_asked (Ok tt) (moved {A = Unit {0}} (Ok tt) after t))

      pub next_fault : (A : Type 0) (after : Resolved) (fault : CheckFault)
          → LeadsTold p (constraint_asked h1 b m s1 k (asked_from (i + 1))) (λ (u : A). asked_from (i + 1)) r after (Err fault)
          → LeadsTold p asked_all (λ (u : A). go) before after (Err fault)
      next_fault A after fault t =
          leads_of_fault p asked_all before {B = A} {C = A} (λ u. asked_from (i + 1)) (λ u. go) after after fault
          (leads_leads {B = A} (λ u. asked_from (i + 1)) after next_asked (Err fault) (moved {A = A} (Err fault) after t))
