-- What headers say.
use Rattle.std.proofs.Common.{◌≡◌, suc, List, [], ◌∷◌, ◌++◌, length, Contains, Bool, true, false, Option, Some, None, refl, sym, ap, subst, ◌⊎◌, inl, inr}
use Rattle.std.specs.Prelude.{Result, Ok, Err, cond}
use Rattle.jn_base.specs.declared.tree.Param.{Param}
use Rattle.jn_base.specs.declared.tree.Constraint.{Constraint}
use Rattle.jn_base.specs.declared.tree.TypeTerm.{TypeTerm}
use Rattle.jn_base.specs.declared.tree.Program.{Program}
use Rattle.jn_base.specs.declared.types.Ty.{Ty}
use Rattle.jn_base.specs.declared.types.Ty.TheVariants as ty
use Rattle.jn_base.specs.declared.names.Var.{Var}
use Rattle.jn_base.specs.declared.names.Role.TheVariants as role
use Rattle.jn_base.specs.declared.refusal.Refusal.{Refusal}
use Rattle.jn_base.specs.Scopes.{Scope}
use Rattle.jn_base.specs.ResolveTypes.{mask_names, ResolveType}
use Rattle.jn_base.proofs.NameTests.{in_cons, in_none, first as at_first, later as behind}
use Rattle.jn_sem.specs.Normal.{same_path}
use Rattle.jn_sem.specs.Terms.{Site, spot_at, vars_at, TypeIs}
use Rattle.jn_sem.specs.Does.{Body, AreParamsAfter, var}
use Rattle.jn_sem.proofs.NormalTypes.{type_subst_is}
use Rattle.jn_rules.specs.Plans.{Pledge, Target, OfType, OfConstraint, Grants, Plan, done, ask, taken, then_do}
use Rattle.jn_rules.specs.Questions.{header_site, ConstraintGives, IsGrant, Gives, Means}
use Rattle.jn_rules.specs.Headers.{site_in, scope_of, declared_type, param_after, params_typed, result_typed, Header, header_typed}
use Rattle.jn_rules.specs.Exprs.{Here, one_grants}
use Rattle.jn_rules.proofs.PlanLaws.{then_came, then_gives}
use Rattle.jn_rule_laws.specs.LawsOfHeaders.{ResultIs, IsHeader, HeadersAreTheMeanings, GrantsOf}
use Rattle.jn_rule_laws.proofs.RepliesOne.{constraint_once}

-- ---- declared types

abbrev resolving : Ty → Result Ty Refusal
resolving t = Ok t

-- a type that resolves is declared as its normal form
type_declared : (p : Program) (at : Site) (t : TypeTerm) (u : Ty) → ResolveType p (mask_names p) (spot_at at role.Value) (vars_at at) t (Ok u)
    → TypeIs p at t (declared_type at u)
type_declared p at t u h = record { given = u; resolved = h; normal = (type_subst_is (scope_of at) same_path u (declared_type at u)).1 refl }

declared_given : (p : Program) (at : Site) (t : TypeTerm) (u : Ty) (h : TypeIs p at t u) → u ≡ declared_type at h.given
declared_given p at t u h = (type_subst_is (scope_of at) same_path h.given u).0 h.normal

same_list : (xs ys : List Var) → ◌≡◌ {A = Result (List Var) Refusal} (Ok xs) (Ok ys) → xs ≡ ys
same_list xs ys e = cc

same_type : (t u : Ty) → ◌≡◌ {A = Result Ty Refusal} (Ok t) (Ok u) → t ≡ u
same_type t u e = cc

same_header : (x y : Header) → ◌≡◌ {A = Result Header Refusal} (Ok x) (Ok y) → x ≡ y
same_header x y e = cc

ok_list : (xs ys : List Var) → xs ≡ ys → ◌≡◌ {A = Result (List Var) Refusal} (Ok xs) (Ok ys)
ok_list xs ys e = ap (λ (v : List Var). let r : Result (List Var) Refusal = Ok v in r) e

-- ---- headers

module _ (p : Program) (b : Body) where
  abbrev Rest : List Var → Param → List Param → List Var → Ty → Type 0
  Rest before x xs all t = AreParamsAfter p b (before ++ var x.name.name (suc (length before)) x.fixed t ∷ []) xs all

  one_param : (before : List Var) (x : Param) (xs : List Param) (all : List Var)
      → ((t : Ty) → Gives p (params_typed b (before ++ param_after b before x t ∷ []) xs) (Ok all) → Rest before x xs all (declared_type (site_in b before) t))
      → (o : Result Ty Refusal) → Means p (OfType (site_in b before) x.ty) o
      → Gives p (taken (λ t. params_typed b (before ++ param_after b before x t ∷ []) xs) o) (Ok all) → AreParamsAfter p b before (x ∷ xs) all
  one_param before x xs all again (Ok u) h k = (declared_type (site_in b before) u, type_declared p (site_in b before) x.ty u h, again u k)
  one_param before x xs all again (Err r) h k = absurd (cc k)

  params_back : (before : List Var) (xs : List Param) (all : List Var) → Gives p (params_typed b before xs) (Ok all) → AreParamsAfter p b before xs all
  params_back before [] all g = same_list all before g
  params_back before (x ∷ xs) all g =
      one_param before x xs all (λ t k. params_back (before ++ param_after b before x t ∷ []) xs all k) g.0 g.1 g.2

  params_forth : (before : List Var) (xs : List Param) (all : List Var) → AreParamsAfter p b before xs all → Gives p (params_typed b before xs) (Ok all)
  params_forth before [] all h = ok_list all before h
  params_forth before (x ∷ xs) all h =
      let e = declared_given p (site_in b before) x.ty h.0 h.1 in
      let r : Rest before x xs all (declared_type (site_in b before) h.1.given) = subst (Rest before x xs all) e h.2 in
      (resolving h.1.given, h.1.resolved, params_forth (before ++ param_after b before x h.1.given ∷ []) xs all r)

  result_back : (vars : List Var) (r : Option TypeTerm) (t : Ty) → Gives p (result_typed b vars r) (Ok t) → ResultIs p b vars r t
  result_back vars None t g = same_type t ty.Void g
  result_back vars (Some r) t g = at g.0 g.1 g.2 where
    at : (o : Result Ty Refusal) → Means p (OfType (site_in b vars) r) o → Gives p (taken (λ u. done (declared_type (site_in b vars) u)) o) (Ok t)
        → TypeIs p (site_in b vars) r t
    at (Ok u) h k = subst (TypeIs p (site_in b vars) r) (sym (same_type t (declared_type (site_in b vars) u) k)) (type_declared p (site_in b vars) r u h)
    at (Err q) h k = absurd (cc k)

  result_forth : (vars : List Var) (r : Option TypeTerm) (t : Ty) → ResultIs p b vars r t → Gives p (result_typed b vars r) (Ok t)
  result_forth vars None t h = ap (λ (u : Ty). resolving u) h
  result_forth vars (Some r) t h = (resolving h.given, h.resolved, ap (λ (u : Ty). resolving u) (declared_given p (site_in b vars) r t h))

  abbrev behind_params : List Var → Plan Header
  behind_params vars = then_do (result_typed b vars b.method.result) (λ t. done (record { vars = vars; result = t }))

  pub header_back : (x : Header) → Gives p (header_typed b) (Ok x) → IsHeader p b x
  header_back x g =
      let c = then_came (params_typed b [] b.method.params) behind_params x g in
      let d = then_came (result_typed b c.first b.method.result) (λ t. let y : Header = record { vars = c.first; result = t } in done y) x c.then in
      subst (IsHeader p b) (sym (same_header x (record { vars = c.first; result = d.first }) d.then))
      (record { params = params_back [] b.method.params c.first c.gave; result = result_back c.first b.method.result d.first d.gave })

  pub header_forth : (x : Header) → IsHeader p b x → Gives p (header_typed b) (Ok x)
  header_forth x h =
      then_gives p (params_typed b [] b.method.params) behind_params x.vars (Ok x) (params_forth [] b.method.params x.vars h.params)
      (then_gives p (result_typed b x.vars b.method.result) (λ t. let y : Header = record { vars = x.vars; result = t } in done y) x.result (Ok x)
      (result_forth x.vars b.method.result x.result h.result) refl)

pub headers_are_the_meanings : HeadersAreTheMeanings
headers_are_the_meanings p b x = (header_back p b x, header_forth p b x)

-- ---- grants

-- of these constraints
record Granted (p : Program) (h : Here) (cs : List Constraint) (s : Scope) (t : Ty) (u : Target) : Type 0 where
  constraint : Constraint
  among : Contains cs constraint
  pledge : Pledge
  is : ConstraintGives p (header_site h.class h.method.name.name) constraint (Ok pledge)
  grants : IsGrant p s pledge t u

record Refused (p : Program) (h : Here) (cs : List Constraint) (r : Refusal) : Type 0 where
  constraint : Constraint
  among : Contains cs constraint
  is : ConstraintGives p (header_site h.class h.method.name.name) constraint (Err r)

module _ (p : Program) (h : Here) (s : Scope) (t : Ty) (u : Target) where
  later_granted : (c : Constraint) (cs : List Constraint) → Granted p h cs s t u → Granted p h (c ∷ cs) s t u
  later_granted c cs g = record { constraint = g.constraint; among = behind c cs g.constraint g.among; pledge = g.pledge; is = g.is; grants = g.grants }

  one_granted : (c : Constraint) (cs : List Constraint) → (Gives p (one_grants h cs s t u) (Ok true) → Granted p h cs s t u)
      → (o : Result Pledge Refusal) → Means p (OfConstraint h.class h.method.name.name c) o
      → Gives p (taken (λ x. ask (Grants s x t u) (λ ok. cond ok (done true) (one_grants h cs s t u))) o) (Ok true) → Granted p h (c ∷ cs) s t u
  one_granted c cs again (Err r) m g = absurd (cc g)
  one_granted c cs again (Ok x) m g = at g.0 g.1 g.2 where
    at : (b : Bool) → Means p (Grants s x t u) b → Gives p (cond b (done true) (one_grants h cs s t u)) (Ok true) → Granted p h (c ∷ cs) s t u
    at true k l = record { constraint = c; among = at_first c cs; pledge = x; is = m; grants = k }
    at false k l = later_granted c cs (again l)

  all_granted : (cs : List Constraint) → Gives p (one_grants h cs s t u) (Ok true) → Granted p h cs s t u
  all_granted [] g = absurd (cc g)
  all_granted (c ∷ cs) g = one_granted c cs (all_granted cs) g.0 g.1 g.2

  same_pledge : (x y : Pledge) → ◌≡◌ {A = Result Pledge Refusal} (Ok x) (Ok y) → x ≡ y
  same_pledge x y e = cc

  not_one : (c : Constraint) (cs : List Constraint) → (Gives p (one_grants h cs s t u) (Ok false) → Granted p h cs s t u → ⊥)
      → (o : Result Pledge Refusal) → Means p (OfConstraint h.class h.method.name.name c) o
      → Gives p (taken (λ x. ask (Grants s x t u) (λ ok. cond ok (done true) (one_grants h cs s t u))) o) (Ok false) → Granted p h (c ∷ cs) s t u → ⊥
  not_one c cs again (Err r) m g k = cc g
  not_one c cs again (Ok x) m g k = at g.0 g.1 g.2 (in_cons c cs k.constraint k.among) where
    at : (b : Bool) → Means p (Grants s x t u) b → Gives p (cond b (done true) (one_grants h cs s t u)) (Ok false) → (c ≡ k.constraint) ⊎ Contains cs k.constraint → ⊥
    at true n l i = cc l
    at false n l (inl e) =
        let is : ConstraintGives p (header_site h.class h.method.name.name) c (Ok k.pledge) = subst (λ (d : Constraint). ConstraintGives p (header_site h.class h.method.name.name) d (Ok k.pledge)) (sym e) k.is in
        n (subst (λ (y : Pledge). IsGrant p s y t u) (same_pledge k.pledge x (constraint_once p (header_site h.class h.method.name.name) c (Ok k.pledge) (Ok x) is m)) k.grants)
    at false n l (inr i) = again l (record { constraint = k.constraint; among = i; pledge = k.pledge; is = k.is; grants = k.grants })

  none_granted : (cs : List Constraint) → Gives p (one_grants h cs s t u) (Ok false) → Granted p h cs s t u → ⊥
  none_granted [] g k = in_none k.constraint k.among
  none_granted (c ∷ cs) g k = not_one c cs (none_granted cs) g.0 g.1 g.2 k

  later_refused : (c : Constraint) (cs : List Constraint) (r : Refusal) → Refused p h cs r → Refused p h (c ∷ cs) r
  later_refused c cs r g = record { constraint = g.constraint; among = behind c cs g.constraint g.among; is = g.is }

  one_refused : (c : Constraint) (cs : List Constraint) (r : Refusal) → (Gives p (one_grants h cs s t u) (Err r) → Refused p h cs r)
      → (o : Result Pledge Refusal) → Means p (OfConstraint h.class h.method.name.name c) o
      → Gives p (taken (λ x. ask (Grants s x t u) (λ ok. cond ok (done true) (one_grants h cs s t u))) o) (Err r) → Refused p h (c ∷ cs) r
  one_refused c cs r again (Err q) m g = record {
    constraint = c;
    among = at_first c cs;
    is = subst (λ (z : Refusal). ConstraintGives p (header_site h.class h.method.name.name) c (Err z)) (cc g) m;
  }
  one_refused c cs r again (Ok x) m g = at g.0 g.1 g.2 where
    at : (b : Bool) → Means p (Grants s x t u) b → Gives p (cond b (done true) (one_grants h cs s t u)) (Err r) → Refused p h (c ∷ cs) r
    at true k l = absurd (cc l)
    at false k l = later_refused c cs r (again l)

  some_refused : (cs : List Constraint) (r : Refusal) → Gives p (one_grants h cs s t u) (Err r) → Refused p h cs r
  some_refused [] r g = absurd (cc g)
  some_refused (c ∷ cs) r g = one_refused c cs r (some_refused cs r) g.0 g.1 g.2

  pub grants_of : GrantsOf p h s t u
  grants_of = record {
    granted = λ g. let k = all_granted h.method.sharing g in
        record { constraint = k.constraint; among = k.among; pledge = k.pledge; is = k.is; grants = k.grants };
    not_granted = λ g k. none_granted h.method.sharing g
        (record { constraint = k.constraint; among = k.among; pledge = k.pledge; is = k.is; grants = k.grants });
    refused = λ r g. let k = some_refused h.method.sharing r g in record { constraint = k.constraint; among = k.among; is = k.is };
  }
