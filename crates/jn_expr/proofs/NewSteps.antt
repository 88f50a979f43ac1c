-- `new`, step by step.
use Rattle.std.proofs.Common.{◌≡◌, ℕ, List, [], ◌∷◌, length, Bool, true, false, nat_eq, Option, Some, None, get_or, Result, Err, sym, ap, ◌∙◌, subst, eq-eqb, ne_eqb}
use Rattle.jn_base.specs.declared.tree.Name.{Name}
use Rattle.jn_base.specs.declared.tree.Place.{Place}
use Rattle.jn_base.specs.declared.tree.Expr.{Expr}
use Rattle.jn_base.specs.declared.tree.Method.{Method}
use Rattle.jn_base.specs.declared.tree.Term.{Term}
use Rattle.jn_base.specs.declared.tree.Program.{Program}
use Rattle.jn_base.specs.declared.refusal.Rule.TheVariants as rule
use Rattle.jn_base.specs.declared.types.Atom.{Atom as ShownAtom}
use Rattle.jn_base.specs.declared.types.Ty.{Ty}
use Rattle.jn_base.specs.declared.names.Role.TheVariants as role
use Rattle.jn_base.specs.declared.names.Var.{Var}
use Rattle.jn_base.specs.declared.names.Resolved.{Resolved}
use Rattle.jn_base.specs.Paths.{Path}
use Rattle.jn_base.specs.Members.{MethodAt}
use Rattle.jn_base.specs.Atoms.{atom_of}
use Rattle.jn_base.specs.Scopes.{Scope as TypeScope, bound}
use Rattle.jn_base.specs.Fits.{TypeFits}
use Rattle.jn_base.specs.Resolve.{is_class}
use Rattle.jn_sem.specs.NormalFunction.{normal_type}
use Rattle.jn_sem.specs.Does.{Body, IsConstructorBody}
use Rattle.jn_intern.specs.declared.pool.TyId.{TyId}
use Rattle.jn_intern.specs.declared.scope.Scope.{Scope}
use Rattle.jn_intern.specs.Pools.{InPool, shown, Keeps, scope_in}
use Rattle.jn_intern.proofs.Pools.{scope_kept}
use Rattle.jn_heads.specs.declared.fault.CheckFault.{CheckFault}
use Rattle.jn_heads.specs.declared.fault.CheckFault.TheVariants.{Refused, Memory}
use Rattle.jn_heads.specs.Params.{header_in}
use Rattle.jn_rules.specs.Plans.{AtomMark, OfTerm, OfConstructor, Plan, note, ask, then_do, wants, taken}
use Rattle.jn_rules.specs.Questions.{Finds}
use Rattle.jn_rules.specs.Headers.{Header}
use Rattle.jn_rules.specs.Exprs.{Here, Typed, Typing, Passing, Passed, in_method, call_typed, args_typed, replaced_paths, gives, of_new, fresh_with, path_or_fresh, made_with, made_without, made_exact, new_typed, site_here}
use Rattle.jn_expr.specs.declared.env.Call.{Call}
use Rattle.jn_expr.specs.declared.env.Value.{Value}
use Rattle.jn_expr.specs.declared.news.Making.{Making}
use Rattle.jn_expr.specs.Envs.{IsScope, here_at}
use Rattle.jn_expr.specs.Passing.{passing_in, IsPassing}
use Rattle.jn_expr.specs.Told.{FaultIs}
use Rattle.jn_expr.specs.Values.{typed_in, TypedFits}
use Rattle.jn_expr.specs.Found.{ConstructorFrom}
use Rattle.jn_expr.specs.Steps.{Leads, LeadsTold, entered, IsCall}
use Rattle.jn_expr.specs.Calling.{body_of, IsBegun, CallFits}
use Rattle.jn_expr.specs.Typing.{AwaitsArgs}
use Rattle.jn_expr.specs.Making.{IsLast, HasConstructor, made_call, made_left}
use Rattle.jn_expr.proofs.Typeds.{fits_kept, made_fits}
use Rattle.jn_expr.proofs.Leading.{leads_here, leads_ask, leads_want, leads_is, leads_leads, leads_of_fault}

-- ---- the constructor

pub is_constructor : (p : Program) (B Q : Path) (x : Method) → ConstructorFrom p B (Some Q) → HasConstructor p B Q x → IsConstructorBody p B (body_of Q x)
is_constructor p [] Q x h at = absurd at
is_constructor p (C ∷ P) Q x h at = record { least = h; at = at }

pub no_constructor : (p : Program) (B : Path) → ConstructorFrom p B None → Finds (IsConstructorBody p B) None
no_constructor p [] h b i = i
no_constructor p (C ∷ P) h b i = h (b.class, i.least.among)

pub has_constructor : (p : Program) (B Q : Path) (n : Name) (x : Method) → IsLast B (Some n) → MethodAt p Q n x → HasConstructor p B Q x
has_constructor p [] Q n x l at = absurd (none l) where
  none : (let o : Option Name = Some n in o ≡ None) → ⊥
  none g = cc g
has_constructor p (C ∷ P) Q n x l at = subst (λ (k : Name). MethodAt p Q k x) (same l) at where
  same : (let o : Option Name = Some n in o ≡ Some C) → n ≡ C
  same g = cc g

pub of_constructor : (p : Program) (h : Here) (at : Place) (es : List (Expr × Typing)) (A B : Path) (s1 s : TypeScope) (t1 t : Ty) (left : Making → Plan Typed) (before after : Resolved)
    (c : Option Body) → Finds (IsConstructorBody p A) c → A ≡ B → s1 ≡ s → t1 ≡ t → (o : Result Making CheckFault)
    → LeadsTold p (made_with h at es s1 t1 c) left before after o → LeadsTold p (ask (OfConstructor B) (made_with h at es s t)) left before after o
of_constructor p h at es A B s1 s t1 t left before after c f a e g o l =
    leads_leads left after
    (leads_ask (leads_here (ask (OfConstructor B) (made_with h at es s t)) before) c (subst (λ (Q : Path). Finds (IsConstructorBody p Q) c) a f)) o
    (subst (λ (u : Ty). LeadsTold p (made_with h at es s u c) left before after o) g
    (subst (λ (r : TypeScope). LeadsTold p (made_with h at es r t1 c) left before after o) e l))

-- ---- without one

module _ (p : Program) (h : Here) (at : Place) (es : List (Expr × Typing)) (pool : List Ty) (olds : Scope) (ty : TyId) (before : Resolved) where
  abbrev bare_plan : Plan Typed
  bare_plan = made_without h at es (scope_in pool olds) (shown pool ty)

  pub without_refused : (n : ℕ) → length es ≡ n → (n ≡ 0 → ⊥) → (f : CheckFault) → FaultIs f (in_method rule.E17 h at) → (left : Making → Plan Typed) (after : Resolved)
      → LeadsTold p bare_plan left before after (Err f)
  without_refused n e ne f i left after = refused (nat_eq (length es) 0) (ne_eqb (length es) 0 (λ z. ne (sym e ∙ z))) (leads_here bare_plan before) f i where
    refused : (t : Bool) → t ≡ false
        → Leads p bare_plan (wants t (in_method rule.E17 h at) (gives (of_new (shown pool ty) (fresh_with (shown pool ty) (scope_in pool olds)) (fresh_with (shown pool ty) (scope_in pool olds)).scope))) before before
        → (k : CheckFault) → FaultIs k (in_method rule.E17 h at) → LeadsTold p bare_plan left before after (Err k)
    refused true i l k j = cc
    refused false i l (Refused q) j = l.gives q (ap Err j)
    refused false i l Memory j = tt

  pub without_made : (n : ℕ) → length es ≡ n → n ≡ 0 → (news : Scope) (q : ℕ) → IsPassing pool olds news (shown pool ty) None q
      → Leads p bare_plan (gives (of_new (shown pool ty) (passing_in pool news q) (scope_in pool news))) before before
  without_made n e z news q i =
      leads_is (ap (λ (r : Passing). gives (of_new (shown pool ty) r r.scope)) (sym i.is))
      (leads_want (nat_eq (length es) 0) (in_method rule.E17 h at) (eq-eqb (length es) 0 (e ∙ z)) (leads_here bare_plan before))

-- ---- by the constructor

module _ (p : Program) (h : Here) (b : Body) (at : Place) (es : List (Expr × Typing)) (n : ℕ) (t : Ty) (s : TypeScope) (before after : Resolved) (pool : List Ty) (olds news : Scope)
    (e : length es ≡ n) where
  abbrev new_go : Header → Plan Typed
  new_go c = then_do (call_typed h c es (fresh_with t s)) (λ x. gives (of_new t (fresh_with t s) x.scope))

  pub make_fault : (f : CheckFault)
      → ((go : Header → Plan Typed) → LeadsTold p (entered h b at n go) (λ (call : Call). go (header_in pool call.header)) before after (Err f))
      → (later : Resolved) (left : Making → Plan Typed) → LeadsTold p (made_with h at es s t (Some b)) left before later (Err f)
  make_fault f told later left =
      leads_of_fault p (made_with h at es s t (Some b)) before (λ (call : Call). new_go (header_in pool call.header)) left after later f
      (subst (λ (k : ℕ). LeadsTold p (entered h b at k new_go) (λ (call : Call). new_go (header_in pool call.header)) before after (Err f)) (sym e) (told new_go))

  left_is : (call : Call) (v : Value) (d : ℕ) → IsBegun pool s olds news t None call → shown pool v.ty ≡ t → v.path ≡ Some (get_or call.paths.items 0 d)
      → new_go (header_in pool call.header) ≡ made_call h pool news es v (Some call)
  left_is call v d g i j =
      ap (λ (r : Passing). then_do (call_typed h (header_in pool call.header) es r) (λ x. gives (of_new t r x.scope))) (sym g.passing)
      ∙ (ap (λ (u : Ty). args_then (g.first ∷ []) (λ x. gives (record { ty = u; path = Some g.first; scope = x.scope }))) (sym i)
      ∙ (ap (λ (o : Option ℕ). args_then (g.first ∷ []) (λ x. gives (record { ty = shown pool v.ty; path = o; scope = x.scope })))
      (sym (j ∙ ap (λ (l : List ℕ). let o : Option ℕ = Some (get_or l 0 d) in o) g.paths))
      ∙ ap (λ (l : List ℕ). args_then l (λ x. gives (record { ty = shown pool v.ty; path = v.path; scope = x.scope }))) (sym g.paths))) where
        args_then : List ℕ → (Passed → Plan Typed) → Plan Typed
        args_then l k = then_do (args_typed h (replaced_paths call.header.at.vars.list) call.header.at.vars.list es l (scope_in pool news)) k

  pub make_told : (call : Call) (v : Value) (d : ℕ) → IsBegun pool s olds news t None call → shown pool v.ty ≡ t → v.path ≡ Some (get_or call.paths.items 0 d)
      → ((go : Header → Plan Typed) → Leads p (entered h b at n go) (go (header_in pool call.header)) before after)
      → Leads p (made_with h at es s t (Some b)) (made_call h pool news es v (Some call)) before after
  make_told call v d g i j told =
      leads_is (left_is call v d g i j)
      (subst (λ (k : ℕ). Leads p (entered h b at k new_go) (new_go (header_in pool call.header)) before after) (sym e) (told new_go))

-- what the call of a constructor awaits, where there is one
module _ (p : Program) (pool : List Ty) (s : TypeScope) (n : ℕ) where
  same_call : (x y : Call) → (let o : Option Call = Some x in o ≡ Some y) → x ≡ y
  same_call x y e = cc

  neither : (y : Call) → (let o : Option Call = None in o ≡ Some y) → ⊥
  neither y e = cc

  pub awaits_some : (x : Call) → CallFits p pool s x → length x.paths.items ≡ 1 → length x.header.at.vars.list ≡ n → AwaitsArgs p pool s n (Some x)
  awaits_some x f b l = record {
    call = λ y e. subst (IsCall pool) (same_call x y e) f.is_call;
    begun = λ y e. subst (λ (c : Call). length c.paths.items ≡ 1) (same_call x y e) b;
    fits = λ y e. subst (CallFits p pool s) (same_call x y e) f;
    count = λ y e. subst (λ (c : Call). length c.header.at.vars.list ≡ n) (same_call x y e) l;
  }

  pub awaits_none : (o : Option Call) → o ≡ None → AwaitsArgs p pool s n o
  awaits_none o e = record {
    call = λ y g. absurd (neither y (sym e ∙ g));
    begun = λ y g. absurd (neither y (sym e ∙ g));
    fits = λ y g. absurd (neither y (sym e ∙ g));
    count = λ y g. absurd (neither y (sym e ∙ g));
  }

-- the path of the receiver is that of the new object
pub begun_fits : (old new : List Ty) (before after : Scope) (ty : TyId) (call : Call) (q d : ℕ) → IsScope old before → InPool old ty → Keeps old new
    → is_class (shown old ty) ≡ true → TypeFits (scope_in old before) (shown old ty) → IsBegun new (scope_in old before) before after (shown old ty) None call
    → q ≡ get_or call.paths.items 0 d
    → TypedFits (typed_in new after (record { ty = ty; path = Some q }))
begun_fits old new before after ty call q d s has k c f b e =
    made_fits new before after ty q b.scope (subst (λ (t : Ty). is_class t ≡ true) (sym (k.shows ty has)) c) (fits_kept s k has f)
    (subst (λ (n : ℕ). passing_in new after n ≡ path_or_fresh (shown new ty) None (scope_in new before)) (sym (e ∙ ap (λ (l : List ℕ). get_or l 0 d) b.paths))
    (b.passing
    ∙ (ap (λ (c : TypeScope). path_or_fresh (shown old ty) None c) (sym (scope_kept before s.known k))
    ∙ ap (λ (t : Ty). path_or_fresh t None (scope_in new before)) (sym (k.shows ty has)))))

-- ---- its term, and then the new object

module _ (p : Program) (Q : Path) (m : Method) (t : Term) (at : Place) (es : List (Expr × Typing)) (vars : List Var) (s : TypeScope) (pool : List Ty) (news : Scope) (before now after : Resolved) where
  abbrev constructed : List Var → TypeScope → ShownAtom → Plan Typed
  constructed vs c a = ask (OfConstructor (bound c (atom_of a))) (made_with (here_at Q m vs) at es c (normal_type c (made_exact (atom_of a))))

  abbrev new_plan : Plan Typed
  new_plan = ask (OfTerm role.New (site_here (here_at Q m vars)) t) (taken (new_typed (here_at Q m vars) at es s))

  abbrev term_plan : (ShownAtom → Plan Typed) → Plan Typed
  term_plan go = ask (OfTerm role.New (site_here (here_at Q m vars)) t) (taken (λ a. note (AtomMark a) (go a)))

  pub new_fault : (f : CheckFault) → ((go : ShownAtom → Plan Typed) → LeadsTold p (term_plan go) go before now (Err f))
      → LeadsTold p new_plan (made_left (here_at Q m vars) pool news es) before after (Err f)
  new_fault f told = leads_of_fault p new_plan before (constructed vars s) (made_left (here_at Q m vars) pool news es) now after f (told (constructed vars s))

  pub new_told : (a : ShownAtom) (vars1 : List Var) (s1 : TypeScope) → vars1 ≡ vars → s1 ≡ s → ((go : ShownAtom → Plan Typed) → Leads p (term_plan go) (go a) before now)
      → (o : Result Making CheckFault) → LeadsTold p (constructed vars1 s1 a) (made_left (here_at Q m vars1) pool news es) now after o
      → LeadsTold p new_plan (made_left (here_at Q m vars) pool news es) before after o
  new_told a vars1 s1 v e told o l =
      leads_leads (made_left (here_at Q m vars) pool news es) after (told (constructed vars s)) o
      (subst (λ (c : TypeScope). LeadsTold p (constructed vars c a) (made_left (here_at Q m vars) pool news es) now after o) e
      (subst (λ (vs : List Var). LeadsTold p (constructed vs s1 a) (made_left (here_at Q m vs) pool news es) now after o) v l))
