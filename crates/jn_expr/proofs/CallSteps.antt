-- Calls, step by step.
use Rattle.std.proofs.Common.{IfOk, ◌≡◌, ◌+◌, ◌<◌, ℕ, List, [], ◌∷◌, ◌++◌, length, take, get_or, Bool, true, false, nat_eq, Option, Some, None, Result, Ok, Err, refl, sym, ap, ◌∙◌, subst, eq-eqb, ne_eqb}
use Rattle.std.proofs.lemmas.List.{take_more, map-append}
use Rattle.jn_base.specs.declared.tree.Name.{Name}
use Rattle.jn_base.specs.declared.tree.Named.{Named}
use Rattle.jn_base.specs.declared.tree.Param.{Param}
use Rattle.jn_base.specs.declared.tree.Place.{Place}
use Rattle.jn_base.specs.declared.tree.Expr.{Expr}
use Rattle.jn_base.specs.declared.tree.Method.{Method}
use Rattle.jn_base.specs.declared.tree.TypeTerm.{TypeTerm}
use Rattle.jn_base.specs.declared.tree.Program.{Program}
use Rattle.jn_base.specs.declared.refusal.Refusal.{Refusal}
use Rattle.jn_base.specs.declared.refusal.Rule.TheVariants as rule
use Rattle.jn_base.specs.declared.types.Masks.{Masks}
use Rattle.jn_base.specs.declared.types.Ty.{Ty}
use Rattle.jn_base.specs.declared.names.Var.{Var}
use Rattle.jn_base.specs.declared.names.Resolved.{Resolved}
use Rattle.jn_base.specs.Paths.{Path}
use Rattle.jn_base.specs.Members.{MethodAt}
use Rattle.jn_base.specs.Atoms.{atoms_in}
use Rattle.jn_base.specs.Scopes.{Scope as TypeScope}
use Rattle.jn_base.specs.Resolve.{is_class}
use Rattle.jn_sem.specs.Does.{Body}
use Rattle.jn_sem.specs.Below.{Below}
use Rattle.jn_intern.specs.declared.pool.TyId.{TyId}
use Rattle.jn_intern.specs.declared.scope.Scope.{Scope}
use Rattle.jn_intern.specs.Pools.{InPool, Keeps, shown, scope_in}
use Rattle.jn_intern.proofs.Pools.{scope_kept}
use Rattle.jn_heads.specs.declared.fault.CheckFault.{CheckFault}
use Rattle.jn_heads.specs.declared.fault.CheckFault.TheVariants.{Refused, Memory}
use Rattle.jn_heads.specs.declared.params.Header.{Header as CodeHeader}
use Rattle.jn_heads.specs.Params.{header_in}
use Rattle.jn_heads.specs.Told.{Told}
use Rattle.jn_rules.specs.Plans.{MemberMark, OfMethod, Plan, refuse, note, ask, then_do, wants, found_or}
use Rattle.jn_rules.specs.Questions.{masks_of, Answers, Gives, Notes, Finds, IsMethodOf, IsFirstMask}
use Rattle.jn_rules.specs.Headers.{Header, param_after, params_typed, result_typed, header_typed}
use Rattle.jn_rules.specs.Exprs.{Here, Typed, Typing, Passing, mismatch, in_method, of_class, first_bound, path_or_fresh, method_gives, suffix_typed, replaced_paths, var_path, Passed, put_in, path_of, call_typed, result_gives, arg_passed, type_passed}
use Rattle.jn_rules.proofs.PlanLaws.{then_came, then_notes, then_refuses}
use Rattle.jn_expr.specs.declared.env.Call.{Call}
use Rattle.jn_expr.specs.Envs.{IsScope}
use Rattle.jn_expr.specs.Passing.{Shows, passing_in, IsPassing}
use Rattle.jn_expr.specs.Told.{Adds, FaultIs}
use Rattle.jn_expr.specs.Found.{MethodFirst, MethodFound}
use Rattle.jn_expr.specs.Steps.{Leads, LeadsTold, entered}
use Rattle.jn_expr.specs.Calling.{body_of, OwnerLeads, receiver_left, called, arg_left, Begins, IsBegun}
use Rattle.jn_expr.proofs.Leading.{leads_here, leads_ask, leads_want, leads_note, leads_quiet, leads_leads}

-- ---- the body of a method

pub no_method_found : (p : Program) (s : TypeScope) (t : Ty) (m : Name) → MethodFirst p s (atoms_in t) m None → Finds (IsMethodOf p s t m) None
no_method_found p s t m none b h = none h.bound h.at

pub is_method : (p : Program) (s : TypeScope) (t : Ty) (m : Name) (Q : Path) (x : Method) → MethodFound p s (atoms_in t) m Q → MethodAt p Q m x → IsMethodOf p s t m (body_of Q x)
is_method p s t m Q x f at = record { bound = f.bound; at = f.at; body = record { least = f.least; at = at } }

pub first_at_type : (p : Program) (s : TypeScope) (t u : Ty) (m : Name) (a b : Option Path) → t ≡ u → a ≡ b → MethodFirst p s (atoms_in t) m a → MethodFirst p s (atoms_in u) m b
first_at_type p s t u m a b e f h = subst (MethodFirst p s (atoms_in u) m) f (subst (λ (y : Ty). MethodFirst p s (atoms_in y) m a) e h)

pub mask_at : (p : Program) (m n : Masks) (a b : Option Name) → m ≡ n → a ≡ b → Finds (IsFirstMask p m) a → Finds (IsFirstMask p n) b
mask_at p m n a b e f h = subst (Finds (IsFirstMask p n)) f (subst (λ (k : Masks). Finds (IsFirstMask p k) a) e h)

module _ (p : Program) (h : Here) (n : Named) (at : Place) (x : Typed) (before : Resolved) (class : is_class x.ty ≡ true) (es : List (Expr × Typing)) where
  asked : Leads p (suffix_typed h n (Some es) at x) (ask (OfMethod x.scope x.ty n.name) (found_or (of_class rule.E16 (first_bound x) n n.name) (method_gives h n es x))) before before
  asked = leads_want (is_class x.ty) (mismatch h at) class (leads_here (suffix_typed h n (Some es) at x) before)

  owner_refused : (r : Refusal) → Leads p (suffix_typed h n (Some es) at x) (refuse r) before before → (f : CheckFault) → FaultIs f r
      → OwnerLeads p n.name (suffix_typed h n (Some es) at x) (receiver_left h n es x) before before (Err f)
  owner_refused r l (Refused q) e = l.gives q (ap Err e)
  owner_refused r l Memory e = tt

  pub no_method_told : Finds (IsMethodOf p x.scope x.ty n.name) None → (f : CheckFault) → FaultIs f (of_class rule.E16 (first_bound x) n n.name)
      → OwnerLeads p n.name (suffix_typed h n (Some es) at x) (receiver_left h n es x) before before (Err f)
  no_method_told none f e = owner_refused (of_class rule.E16 (first_bound x) n n.name) (leads_ask asked None none) f e

  pub masked_told : (Q : Path) → MethodFound p x.scope (atoms_in x.ty) n.name Q → (g : Name) → Finds (IsFirstMask p (masks_of x.ty)) (Some g) → (f : CheckFault)
      → FaultIs f (of_class rule.E19 (first_bound x) n g) → OwnerLeads p n.name (suffix_typed h n (Some es) at x) (receiver_left h n es x) before before (Err f)
  masked_told Q found g first f e =
      let d = found.least.among in
      owner_refused (of_class rule.E19 (first_bound x) n g)
      (leads_ask (leads_ask asked (Some (body_of Q d.method)) (is_method p x.scope x.ty n.name Q d.method found d.at)) (Some g) first) f e

  pub owner_told : (Q : Path) → MethodFound p x.scope (atoms_in x.ty) n.name Q → Finds (IsFirstMask p (masks_of x.ty)) None
      → OwnerLeads p n.name (suffix_typed h n (Some es) at x) (receiver_left h n es x) before before (Ok Q)
  owner_told Q found none = λ y at. leads_ask (leads_ask asked (Some (body_of Q y)) (is_method p x.scope x.ty n.name Q y found at)) None none

-- a receiver that is refused
pub owner_fault_leads : {B : Type 0} (p : Program) (n : Name) (whole : Plan Typed) (rest : Body → Plan Typed) (left : B → Plan Typed) (before mid after : Resolved) (f : CheckFault)
    → OwnerLeads p n whole rest before mid (Err f) → LeadsTold p whole left before after (Err f)
owner_fault_leads p n whole rest left before mid after (Refused r) g = g
owner_fault_leads p n whole rest left before mid after Memory g = tt

-- ---- headers note nothing

ok_is : {A : Type 0} {a b : A} → (let e : Result A Refusal = Ok a in e ≡ Ok b) → a ≡ b
ok_is e = cc

not_both : {A : Type 0} {a : A} {r : Refusal} → (let e : Result A Refusal = Ok a in e ≡ Err r) → ⊥
not_both e = cc

params_quiet : (p : Program) (b : Body) (xs : List Param) (before vs : List Var) → Gives p (params_typed b before xs) (Ok vs)
    → Notes p (params_typed b before xs) [] vs
params_quiet p b [] before vs g = (refl, ok_is g)
params_quiet p b (x ∷ xs) before vs (Ok t, m, k) = (Ok t, m, params_quiet p b xs (before ++ param_after b before x t ∷ []) vs k)
params_quiet p b (x ∷ xs) before vs (Err r, m, k) = absurd (not_both k)

result_quiet : (p : Program) (b : Body) (vars : List Var) (o : Option TypeTerm) (t : Ty) → Gives p (result_typed b vars o) (Ok t) → Notes p (result_typed b vars o) [] t
result_quiet p b vars None t g = (refl, ok_is g)
result_quiet p b vars (Some w) t (Ok u, m, k) = (Ok u, m, (refl, ok_is k))
result_quiet p b vars (Some w) t (Err r, m, k) = absurd (not_both k)

pub header_quiet : (p : Program) (b : Body) (c : Header) → Gives p (header_typed b) (Ok c) → Notes p (header_typed b) [] c
header_quiet p b c g =
    let k = then_came (params_typed b [] b.method.params) _ c g in
    let m = then_came (result_typed b k.first b.method.result) _ c k.then in
    then_notes p (params_typed b [] b.method.params) _ [] [] k.first c (params_quiet p b b.method.params [] k.first k.gave)
    (then_notes p (result_typed b k.first b.method.result) _ [] [] m.first c (result_quiet p b k.first b.method.result m.first m.gave) (refl, ok_is m.then))

-- ---- a body that is called

module _ (p : Program) (h : Here) (b : Body) (at : Place) (n : ℕ) (go : Header → Plan Typed) (before : Resolved) where
  abbrev enter_go : Header → Plan Typed
  enter_go c = wants (nat_eq (length c.vars) n) (in_method rule.E17 h at) (note (MemberMark b.class) (go c))

  pub enter_fault : {B : Type 0} (show : B → Header) (left : B → Plan Typed) (after : Resolved) (f : CheckFault) → Told (Gives p (header_typed b)) show (Err f)
      → LeadsTold p (entered h b at n go) left before after (Err f)
  enter_fault show left after (Refused r) g = then_refuses p (header_typed b) enter_go r g
  enter_fault show left after Memory g = tt

  headed : (c : Header) → Gives p (header_typed b) (Ok c) → Leads p (entered h b at n go) (enter_go c) before before
  headed c g = leads_quiet (header_typed b) enter_go c (leads_here (entered h b at n go) before) (header_quiet p b c g)

  pub enter_unlike : {B : Type 0} (left : B → Plan Typed) (after : Resolved) (c : Header) → Gives p (header_typed b) (Ok c) → (length c.vars ≡ n → ⊥) → (f : CheckFault)
      → FaultIs f (in_method rule.E17 h at) → LeadsTold p (entered h b at n go) left before after (Err f)
  enter_unlike left after c g ne f e = refused (nat_eq (length c.vars) n) (ne_eqb (length c.vars) n ne) (headed c g) f e where
    refused : (t : Bool) → t ≡ false → Leads p (entered h b at n go) (wants t (in_method rule.E17 h at) (note (MemberMark b.class) (go c))) before before → (k : CheckFault)
        → FaultIs k (in_method rule.E17 h at) → LeadsTold p (entered h b at n go) left before after (Err k)
    refused true i l k j = cc
    refused false i l (Refused q) j = l.gives q (ap Err j)
    refused false i l Memory j = tt

  pub enter_told : (after : Resolved) (c : Header) → Gives p (header_typed b) (Ok c) → length c.vars ≡ n → Adds (MemberMark b.class ∷ []) before after
      → Leads p (entered h b at n go) (go c) before after
  enter_told after c g e d = leads_note (leads_want (nat_eq (length c.vars) n) (in_method rule.E17 h at) (eq-eqb (length c.vars) n e) (headed c g)) d

-- the call that is begun
pub begun : (old new : List Ty) (before after : Scope) (ty : TyId) (path : Option ℕ) (q : ℕ) (header : CodeHeader) (call : Call) → IsScope old before → InPool old ty
    → Keeps old new → InPool new header.result → IsPassing new before after (shown new ty) path q → Begins header q call
    → IsBegun new (scope_in old before) before after (shown old ty) path call
begun old new before after ty path q header call s has k number i b = record {
  is_call = record {
    result = subst (λ (x : CodeHeader). InPool new x.result) (sym b.kept) number;
    from = b.from ∙ ap (λ (x : CodeHeader). replaced_paths x.at.vars.list) (sym b.kept);
  };
  first = q;
  paths = b.paths;
  passing = i.is
      ∙ (ap (λ (t : Ty). path_or_fresh t path (scope_in new before)) (k.shows ty has) ∙ ap (λ (c : TypeScope). path_or_fresh (shown old ty) path c) (scope_kept before s.known k));
  scope = i.scope;
  grows = i.grows;
}

-- the paths of a list of variables, one more
pub paths_more : (vs : List Var) (i : ℕ) (v : Var) → i < length vs → v ≡ get_or vs i v → replaced_paths (take (i + 1) vs) ≡ replaced_paths (take i vs) ++ v.path ∷ []
paths_more vs i v l e =
    ap replaced_paths (take_more vs i v l ∙ ap (λ (x : Var). take i vs ++ x ∷ []) (sym e))
    ∙ ap (λ (ns : List ℕ). 0 ∷ ns) (map-append var_path (take i vs) (v ∷ []))

-- ---- a call of a method that is begun

pub called_is : (h : Here) (c : Header) (es : List (Expr × Typing)) (pool : List Ty) (old : TypeScope) (before after : Scope) (t : Ty) (path : Option ℕ) (call : Call)
    → IsBegun pool old before after t path call
    → then_do (call_typed h c es (path_or_fresh t path old)) (result_gives c) ≡ called h c es call.paths.items (scope_in pool after)
called_is h c es pool old before after t path call b =
    ap (λ (r : Passing). then_do (call_typed h c es r) (result_gives c)) (sym b.passing)
    ∙ ap (λ (ps : List ℕ). called h c es ps (scope_in pool after)) (sym b.paths)

module _ (p : Program) (whole : Plan Typed) (h : Here) (m : Named) (b : Body) (es : List (Expr × Typing)) (n : ℕ) (x : Typed) (before now after : Resolved)
    (pool : List Ty) (olds news : Scope) where
  abbrev method_go : Header → Plan Typed
  method_go c = then_do (call_typed h c es (path_of x.ty x)) (result_gives c)

  as_counted : (o : Result Call CheckFault) → length es ≡ n
      → ((go : Header → Plan Typed) → LeadsTold p (entered h b m.at n go) (λ (call : Call). go (header_in pool call.header)) now after o)
      → LeadsTold p (receiver_left h m es x b) (λ (call : Call). method_go (header_in pool call.header)) now after o
  as_counted o e told =
      subst (λ (k : ℕ). LeadsTold p (entered h b m.at k method_go) (λ (call : Call). method_go (header_in pool call.header)) now after o) (sym e) (told method_go)

  pub method_told : Leads p whole (receiver_left h m es x b) before now → (o : Result Call CheckFault) → length es ≡ n
      → ((go : Header → Plan Typed) → LeadsTold p (entered h b m.at n go) (λ (call : Call). go (header_in pool call.header)) now after o)
      → IfOk o (λ (call : Call). IsBegun pool x.scope olds news x.ty x.path call)
      → LeadsTold p whole (λ (call : Call). called h (header_in pool call.header) es call.paths.items (scope_in pool news)) before after o
  method_told l (Ok call) e told begun =
      subst (λ (r : Plan Typed). Leads p whole r before after) (called_is h (header_in pool call.header) es pool x.scope olds news x.ty x.path call begun)
      (leads_leads (λ (y : Call). method_go (header_in pool y.header)) after l (Ok call) (as_counted (Ok call) e told))
  method_told l (Err f) e told begun = unlike f (leads_leads (λ (y : Call). method_go (header_in pool y.header)) after l (Err f) (as_counted (Err f) e told)) where
    unlike : (g : CheckFault) → LeadsTold p whole (λ (y : Call). method_go (header_in pool y.header)) before after (Err g)
        → LeadsTold p whole (λ (call : Call). called h (header_in pool call.header) es call.paths.items (scope_in pool news)) before after (Err g)
    unlike (Refused r) g = g
    unlike Memory g = tt

-- ---- arguments

some_is : {A : Type 0} {a b : A} → (let e : Option A = Some a in e ≡ Some b) → a ≡ b
some_is e = cc

pub wanted_is : {E : Type 0} (o : Result TyId E) (p0 p1 p2 : List Ty) (scope : Scope) (from to from2 to2 : List ℕ) (ty : TyId) (y : Var) (at : Option Var) → IsScope p0 scope → Keeps p0 p1
    → at ≡ Some y → shown p1 ty ≡ y.ty → from2 ≡ from → to2 ≡ to
    → IfOk o (λ (u : TyId). Shows p2 u (put_in (scope_in p1 scope) from2 to2 (shown p1 ty)))
    → IfOk o (λ (u : TyId). (x : Var) → at ≡ Some x → Shows p2 u (put_in (scope_in p0 scope) from to x.ty))
wanted_is (Ok u) p0 p1 p2 scope from to from2 to2 ty y at s k e f a b g = λ x i.
    let w : y.ty ≡ x.ty = ap (λ (v : Var). v.ty) (some_is (sym e ∙ i)) in
    let put : put_in (scope_in p1 scope) from2 to2 (shown p1 ty) ≡ put_in (scope_in p0 scope) from to x.ty =
    ap (λ (t : Ty). put_in (scope_in p1 scope) from2 to2 t) (f ∙ w)
    ∙ (ap (λ (c : TypeScope). put_in c from2 to2 x.ty) (scope_kept scope s.known k)
    ∙ (ap (λ (l : List ℕ). put_in (scope_in p0 scope) l to2 x.ty) a ∙ ap (λ (l : List ℕ). put_in (scope_in p0 scope) from l x.ty) b)) in
    record { number = g.number; shows = g.shows ∙ put }
wanted_is (Err q) p0 p1 p2 scope from to from2 to2 ty y at s k e f a b g = tt

pub below_at : (p : Program) (s s2 : TypeScope) (t t2 u u2 : Ty) (r r2 : Bool) → s ≡ s2 → t ≡ t2 → u ≡ u2 → r ≡ r2 → Answers (Below p s t u) r → Answers (Below p s2 t2 u2) r2
below_at p s s2 t t2 u u2 r r2 e f g h a =
    subst (Answers (Below p s2 t2 u2)) h
    (subst (λ (y : Ty). Answers (Below p s2 t2 y) r) g
    (subst (λ (y : Ty). Answers (Below p s2 y u) r) f (subst (λ (c : TypeScope). Answers (Below p c t u) r) e a)))

module _ (p : Program) (h : Here) (from : List ℕ) (x : Var) (at : Place) (t : Typed) (to : List ℕ) (go : List ℕ → TypeScope → Plan Passed) (before : Resolved) where
  pub arg_refused : {B : Type 0} → Answers (Below p t.scope t.ty (put_in t.scope from to x.ty)) false → (f : CheckFault) → FaultIs f (mismatch h at)
      → (left : B → Plan Passed) (after : Resolved) → LeadsTold p (arg_left h from x at t to go) left before after (Err f)
  arg_refused a (Refused q) e left after =
      (leads_ask (leads_here (arg_left h from x at t to go) before) false a).gives q (ap Err e)
  arg_refused a Memory e left after = tt

  pub arg_told : Answers (Below p t.scope t.ty (put_in t.scope from to x.ty)) true → (q : ℕ) (c : TypeScope) (to2 : List ℕ)
      → (let y : Passing = record { path = q; scope = c } in y ≡ arg_passed from to x t) → to2 ≡ to ++ q ∷ []
      → Leads p (arg_left h from x at t to go) (go to2 c) before before
  arg_told a q c to2 e f =
      subst (λ (l : List ℕ). Leads p (arg_left h from x at t to go) (go l c) before before) (sym f)
      (subst (λ (y : Passing). Leads p (arg_left h from x at t to go) (go (to ++ y.path ∷ []) y.scope) before before) (sym e)
      (leads_want true (mismatch h at) refl (leads_ask (leads_here (arg_left h from x at t to go) before) true a)))

-- the path of an argument, in a later pool
pub arg_path : (p0 pb : List Ty) (scope after : Scope) (ty passed want : TyId) (w : Ty) (path : Option ℕ) (q : ℕ) → IsScope p0 scope → InPool p0 ty → Keeps p0 pb
    → shown pb passed ≡ type_passed (shown pb ty) (shown pb want) → shown pb want ≡ w → IsPassing pb scope after (shown pb passed) path q
    → passing_in pb after q ≡ path_or_fresh (type_passed (shown p0 ty) w) path (scope_in p0 scope)
arg_path p0 pb scope after ty passed want w path q s has k e f i =
    i.is
    ∙ (ap (λ (t : Ty). path_or_fresh t path (scope_in pb scope))
    (e ∙ (ap (λ (t : Ty). type_passed t (shown pb want)) (k.shows ty has) ∙ ap (λ (u : Ty). type_passed (shown p0 ty) u) f))
    ∙ ap (λ (c : TypeScope). path_or_fresh (type_passed (shown p0 ty) w) path c) (scope_kept scope s.known k))

-- ---- the result

pub put_args : (s : TypeScope) (f f1 f2 t t1 : List ℕ) (u v : Ty) → u ≡ put_in s f t v → f ≡ f1 → f1 ≡ f2 → t ≡ t1 → u ≡ put_in s f2 t1 v
put_args s f f1 f2 t t1 u v e a b d =
    e ∙ (ap (λ (l : List ℕ). put_in s l t v) (a ∙ b) ∙ ap (λ (l : List ℕ). put_in s f2 l v) d)
