-- What a header has: the kinds of its parameters, and which of them are tested.
use Rattle.std.proofs.Common.{◌≡◌, ℕ, suc, List, [], ◌∷◌, ◌++◌, length, map, Bool, Option, Some, None, ◌⊎◌, inl, inr, refl, sym, ap, ◌∙◌, subst, append_assoc, append-nil}
use Rattle.std.specs.Prelude.{Result, Ok, slice_get, ◌&&◌}
use Rattle.jn_base.specs.declared.tree.Param.{Param}
use Rattle.jn_base.specs.declared.tree.TypeTerm.{TypeTerm}
use Rattle.jn_base.specs.declared.tree.Program.{Program}
use Rattle.jn_base.specs.declared.types.Ty.{Ty}
use Rattle.jn_base.specs.declared.types.Ty.TheVariants as ty
use Rattle.jn_base.specs.declared.names.Role.TheVariants as role
use Rattle.jn_base.specs.declared.names.Var.{Var}
use Rattle.jn_base.specs.declared.refusal.Refusal.{Refusal}
use Rattle.jn_base.specs.Atoms.{Among, first, later}
use Rattle.jn_base.specs.Resolve.{is_class}
use Rattle.jn_base.specs.ResolveTypes.{ResolveType, mask_names}
use Rattle.jn_code.specs.declared.instr.Instr.{Instr}
use Rattle.jn_sem.specs.NormalFunction.{normal_type}
use Rattle.jn_sem.specs.Terms.{spot_at, vars_at}
use Rattle.jn_sem.specs.Does.{Body}
use Rattle.jn_rules.specs.Plans.{Mark, done, then_do}
use Rattle.jn_rules.specs.Questions.{Gives, Notes}
use Rattle.jn_rules.specs.Headers.{site_in, scope_of, declared_type, param_after, params_typed, result_typed, Header, header_typed}
use Rattle.jn_rules.proofs.PlanLaws.{then_came, then_noted, took}
use Rattle.jn_agree.specs.Follows.{is_tested}
use Rattle.jn_agree.specs.Rows.{kind_of_type, result_kind}
use Rattle.jn_agree.specs.Places.{testing, tests}
use Rattle.jn_lower.specs.Written.{written_kind, is_reference, param_kind, param_tests, written_result}
use Rattle.jn_lower.proofs.Noting.{taken_noted}
use Rattle.jn_laws.specs.LawsOfWritten.{HeaderPaths}
use Rattle.jn_laws.proofs.WrittenTypes.{written_kinds}
use Rattle.jn_lower.proofs.Seen.{paths_more, among_more}
use Rattle.jn_lower.proofs.Written.{told, kind_kept, class_kept, void_kept, type_is}

-- ---- parameters

-- v is the parameter x, whose number is n
record IsParam (n : ℕ) (x : Param) (v : Var) : Type 0 where
  path : v.path ≡ n
  fixed : v.fixed ≡ x.fixed
  kind : kind_of_type v.ty ≡ written_kind x.ty
  class : is_class v.ty ≡ is_reference x.ty
  valued : v.ty ≡ ty.Void → ⊥

-- one for one, numbered from n on
data AreThey : ℕ → List Param → List Var → Type 0 where
  none : {n : ℕ} → AreThey n [] []
  more : {n : ℕ} {x : Param} {xs : List Param} {v : Var} {vs : List Var} → IsParam n x v → AreThey (suc n) xs vs
      → AreThey n (x ∷ xs) (v ∷ vs)

-- those behind the ones before
record Behind (before : List Var) (xs : List Param) (vars : List Var) : Type 0 where
  more : List Var
  all : vars ≡ before ++ more
  are : AreThey (suc (length before)) xs more

pub list_same : {xs ys : List Var} → ◌≡◌ {A = Result (List Var) Refusal} (Ok xs) (Ok ys) → xs ≡ ys
list_same e = cc

is_param : (p : Program) (b : Body) (before : List Var) (x : Param) (t : Ty)
    → ResolveType p (mask_names p) (spot_at (site_in b before) role.Value) (vars_at (site_in b before)) x.ty (Ok t)
    → IsParam (suc (length before)) x (param_after b before x t)
is_param p b before x t h =
    let f = told p (mask_names p) (spot_at (site_in b before) role.Value) (vars_at (site_in b before)) x.ty t h in
    record {
      path = refl;
      fixed = refl;
      kind = kind_kept (scope_of (site_in b before)) t ∙ f.kind;
      class = class_kept (scope_of (site_in b before)) t ∙ f.class;
      valued = λ e. f.valued (void_kept (scope_of (site_in b before)) t e);
    }

params_are : (p : Program) (b : Body) (before : List Var) (xs : List Param) (vars : List Var)
    → Gives p (params_typed b before xs) (Ok vars) → Behind before xs vars
params_are p b before [] vars g =
    record { more = []; all = list_same g ∙ sym (append-nil before); are = none }
params_are p b before (x ∷ xs) vars g =
    let h = took g.0 (λ t. params_typed b (before ++ param_after b before x t ∷ []) xs) vars g.2 in
    let v = param_after b before x h.given in
    let r = params_are p b (before ++ v ∷ []) xs vars h.then in
    record {
      more = v ∷ r.more;
      all = r.all ∙ append_assoc before (v ∷ []) r.more;
      are = more (is_param p b before x h.given (subst (λ (o : Result Ty Refusal). ResolveType p (mask_names p) (spot_at (site_in b before) role.Value) (vars_at (site_in b before)) x.ty o) h.is g.1))
          (subst (λ n. AreThey (suc n) xs r.more) (longer before v) r.are);
    }
  where
    longer : (before : List Var) (v : Var) → length (before ++ v ∷ []) ≡ suc (length before)
    longer [] v = refl
    longer (w ∷ ws) v = ap suc (longer ws v)

-- they mention `this` and final parameters of class type
params_paths : (p : Program) (b : Body) (before : List Var) (xs : List Param) (vars : List Var)
    → Gives p (params_typed b before xs) (Ok vars) → ((v : Var) → Among before v → HeaderPaths before v.ty) → (v : Var)
    → Among vars v → HeaderPaths vars v.ty
params_paths p b before [] vars g own =
    subst (λ (vs : List Var). (v : Var) → Among vs v → HeaderPaths vs v.ty) (sym (list_same g)) own
params_paths p b before (x ∷ xs) vars g own =
    let at = site_in b before in
    let h = took g.0 (λ t. params_typed b (before ++ param_after b before x t ∷ []) xs) vars g.2 in
    let w = param_after b before x h.given in
    let means = subst (λ (o : Result Ty Refusal). ResolveType p (mask_names p) (spot_at at role.Value) (vars_at at) x.ty o) h.is g.1 in
    params_paths p b (before ++ w ∷ []) xs vars h.then
    (λ v m. more w ((written_kinds p).paths at x.ty w.ty own (type_is p at x.ty h.given means)) v (among_more before w v m))
  where
    more : (w : Var) → HeaderPaths before w.ty → (v : Var) → Among before v ⊎ (v ≡ w) → HeaderPaths (before ++ w ∷ []) v.ty
    more w mine v (inl m) = paths_more before w v.ty (own v m)
    more w mine v (inr e) = subst (λ (u : Var). HeaderPaths (before ++ w ∷ []) u.ty) (sym e) (paths_more before w w.ty mine)

-- ---- a header

pub record HeadIs (xs : List Param) (t : Option TypeTerm) (k : Header) : Type 0 where
  pub kinds : map (λ (x : Var). kind_of_type x.ty) k.vars ≡ map param_kind xs
  pub count : length k.vars ≡ length xs
  pub tested : tests k.vars ≡ param_tests 1 xs
  pub numbered : (v : Var) → Among k.vars v → slice_get (3 ∷ map param_kind xs) v.path ≡ Some (kind_of_type v.ty)
  pub valued : (v : Var) → Among k.vars v → v.ty ≡ ty.Void → ⊥
  pub above : (v : Var) → Among k.vars v → v.path ≡ 0 → ⊥
  pub paths : (v : Var) → Among k.vars v → HeaderPaths k.vars v.ty
  pub result : result_kind k.result ≡ written_result t

kinds_are : (n : ℕ) (xs : List Param) (vs : List Var) → AreThey n xs vs
    → map (λ (x : Var). kind_of_type x.ty) vs ≡ map param_kind xs
kinds_are n _ _ none = refl
kinds_are n _ _ (more {x = x} {xs = xs} {v = v} {vs = vs} h r) =
    ap (λ (k : ℕ). k ∷ map (λ (x : Var). kind_of_type x.ty) vs) h.kind ∙ ap (λ (l : List ℕ). param_kind x ∷ l) (kinds_are (suc n) xs vs r)

count_is : (n : ℕ) (xs : List Param) (vs : List Var) → AreThey n xs vs → length vs ≡ length xs
count_is n _ _ none = refl
count_is n _ _ (more {xs = xs} {vs = vs} h r) = ap suc (count_is (suc n) xs vs r)

tests_are : (n : ℕ) (xs : List Param) (vs : List Var) → AreThey n xs vs → tests vs ≡ param_tests n xs
tests_are n _ _ none = refl
tests_are n _ _ (more {x = x} {xs = xs} {v = v} {vs = vs} h r) =
    ap (λ (l : List Instr). testing (is_tested v) v.path ++ l) (tests_are (suc n) xs vs r)
    ∙ ap (λ (b : Bool). testing b v.path ++ param_tests (suc n) xs) (ap (λ (b : Bool). b && is_class v.ty) h.fixed ∙ ap (λ (b : Bool). x.fixed && b) h.class)
    ∙ ap (λ (q : ℕ). testing (x.fixed && is_reference x.ty) q ++ param_tests (suc n) xs) h.path

-- numbered from the length of what stands before
numbered_by : (front : List ℕ) (n : ℕ) (xs : List Param) (vs : List Var) → length front ≡ n → AreThey n xs vs → (v : Var)
    → Among vs v → slice_get (front ++ map param_kind xs) v.path ≡ Some (kind_of_type v.ty)
numbered_by front _ _ _ e (none {n = n}) v m = elim m [ ]
numbered_by front n _ _ e (more {x = x} {xs = xs} h r) v first =
    ap (λ (q : ℕ). slice_get (front ++ param_kind x ∷ map param_kind xs) q) (h.path ∙ sym e)
    ∙ at_end front (param_kind x) (map param_kind xs) ∙ ap Some (sym h.kind) where
      at_end : (front : List ℕ) (k : ℕ) (l : List ℕ) → slice_get (front ++ k ∷ l) (length front) ≡ Some k
      at_end [] k l = refl
      at_end (j ∷ front) k l = at_end front k l
numbered_by front n _ _ e (more {x = x} {xs = xs} {vs = vs} h r) v (later m) =
    ap (λ (l : List ℕ). slice_get l v.path) (sym (append_assoc front (param_kind x ∷ []) (map param_kind xs)))
    ∙ numbered_by (front ++ param_kind x ∷ []) (suc n) xs vs (longer front (param_kind x) ∙ ap suc e) r v m where
      longer : (front : List ℕ) (k : ℕ) → length (front ++ k ∷ []) ≡ suc (length front)
      longer [] k = refl
      longer (j ∷ front) k = ap suc (longer front k)

valued_all : (n : ℕ) (xs : List Param) (vs : List Var) → AreThey n xs vs → (v : Var) → Among vs v → v.ty ≡ ty.Void → ⊥
valued_all _ _ _ (none {n = n}) v m = elim m [ ]
valued_all n _ _ (more h r) v first = h.valued
valued_all n _ _ (more {xs = xs} {vs = vs} h r) v (later m) = valued_all (suc n) xs vs r v m

no_number : (n : ℕ) → suc n ≡ 0 → ⊥
no_number n e = cc

above_all : (n : ℕ) (xs : List Param) (vs : List Var) → AreThey (suc n) xs vs → (v : Var) → Among vs v → v.path ≡ 0 → ⊥
above_all n _ _ none v m = elim m [ ]
above_all n _ _ (more h r) v first = λ e. no_number n (sym h.path ∙ e)
above_all n _ _ (more {xs = xs} {vs = vs} h r) v (later m) = above_all (suc n) xs vs r v m

type_same : {t u : Ty} → ◌≡◌ {A = Result Ty Refusal} (Ok t) (Ok u) → t ≡ u
type_same e = cc

pub header_same : {x y : Header} → ◌≡◌ {A = Result Header Refusal} (Ok x) (Ok y) → x ≡ y
header_same e = cc

result_so : (t : Ty) (k : ℕ) → (t ≡ ty.Void → ⊥) → kind_of_type t ≡ k → result_kind t ≡ k
result_so ty.Int k f e = e
result_so ty.Bool k f e = e
result_so ty.Null k f e = e
result_so ty.Void k f e = absurd (f refl)
result_so (ty.Class xs m) k f e = e

result_is : (p : Program) (b : Body) (vars : List Var) (t : Option TypeTerm) (u : Ty)
    → Gives p (result_typed b vars t) (Ok u) → result_kind u ≡ written_result t
result_is p b vars None u g = ap result_kind (type_same g)
result_is p b vars (Some t) u g =
    let h = took g.0 (λ w. done (declared_type (site_in b vars) w)) u g.2 in
    let f = told p (mask_names p) (spot_at (site_in b vars) role.Value) (vars_at (site_in b vars)) t h.given
    (subst (λ (o : Result Ty Refusal). ResolveType p (mask_names p) (spot_at (site_in b vars) role.Value) (vars_at (site_in b vars)) t o) h.is g.1) in
    ap result_kind (type_same h.then)
    ∙ result_so (normal_type (scope_of (site_in b vars)) h.given) (written_kind t)
    (λ e. f.valued (void_kept (scope_of (site_in b vars)) h.given e)) (kind_kept (scope_of (site_in b vars)) h.given ∙ f.kind)

pub head_is : (p : Program) (b : Body) (k : Header) → Gives p (header_typed b) (Ok k)
    → HeadIs b.method.params b.method.result k
head_is p b k g =
    let x = then_came (params_typed b [] b.method.params) (λ vars. then_do (result_typed b vars b.method.result) (λ t. done (record { vars = vars; result = t }))) k g in
    let y = then_came (result_typed b x.first b.method.result) (λ t. done (record { vars = x.first; result = t })) k x.then in
    let r = params_are p b [] b.method.params x.first x.gave in
    let same : record { vars = r.more; result = y.first } ≡ k =
    ap (λ (vs : List Var). record { vars = vs; result = y.first }) (sym r.all) ∙ sym (header_same y.then) in
    subst (HeadIs b.method.params b.method.result) same (record {
      kinds = kinds_are 1 b.method.params r.more r.are;
      count = count_is 1 b.method.params r.more r.are;
      tested = tests_are 1 b.method.params r.more r.are;
      numbered = numbered_by (3 ∷ []) 1 b.method.params r.more refl r.are;
      valued = valued_all 1 b.method.params r.more r.are;
      above = above_all 0 b.method.params r.more r.are;
      paths = subst (λ (vs : List Var). (v : Var) → Among vs v → HeaderPaths vs v.ty) r.all
          (params_paths p b [] b.method.params x.first x.gave (λ v m. elim m [ ]));
      result = result_is p b x.first b.method.result y.first y.gave;
    })

-- a header notes nothing
params_silent : (p : Program) (b : Body) (before : List Var) (xs : List Param) (ms : List Mark) (vars : List Var)
    → Notes p (params_typed b before xs) ms vars → ms ≡ []
params_silent p b before [] ms vars g = g.0
params_silent p b before (x ∷ xs) ms vars g =
    let h = taken_noted g.0 (λ t. params_typed b (before ++ param_after b before x t ∷ []) xs) ms vars g.2 in
    params_silent p b (before ++ param_after b before x h.given ∷ []) xs ms vars h.then

result_silent : (p : Program) (b : Body) (vars : List Var) (t : Option TypeTerm) (ms : List Mark) (u : Ty)
    → Notes p (result_typed b vars t) ms u → ms ≡ []
result_silent p b vars None ms u g = g.0
result_silent p b vars (Some t) ms u g = (taken_noted g.0 (λ w. done (declared_type (site_in b vars) w)) ms u g.2).then.0

pub header_silent : (p : Program) (b : Body) (ms : List Mark) (k : Header) → Notes p (header_typed b) ms k → ms ≡ []
header_silent p b ms k g =
    let x = then_noted (params_typed b [] b.method.params) (λ vars. then_do (result_typed b vars b.method.result) (λ t. done (record { vars = vars; result = t }))) ms k g in
    let y = then_noted (result_typed b x.first b.method.result) (λ t. done (record { vars = x.first; result = t })) x.after k x.then in
    x.all ∙ ap (λ (l : List Mark). l ++ x.after) (params_silent p b [] b.method.params x.before x.first x.noted)
    ∙ y.all ∙ ap (λ (l : List Mark). l ++ y.after) (result_silent p b x.first b.method.result y.before y.first y.noted) ∙ y.then.0
