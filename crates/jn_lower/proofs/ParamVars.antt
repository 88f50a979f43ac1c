-- The parameters that are found are those of the header, but for masks.
use Rattle.std.proofs.Common.{◌≡◌, ◌<◌, ◌≤◌, ◌+◌, ℕ, suc, List, [], ◌∷◌, ◌++◌, length, map, drop, reverse, get_or, Option, Some, None, Bool, true, false, refl, sym, ap, ◌∙◌, subst, cond, nat_eq}
use Rattle.std.specs.Prelude.{Result, Ok, Err, ◌&&◌}
use Rattle.std.proofs.lemmas.List.{reverse-append, drop_all, length-map}
use Rattle.jn_base.specs.Paths.{Path, shown}
use Rattle.jn_base.specs.declared.path.Path.{Path as ShownPath}
use Rattle.jn_base.specs.declared.tree.Name.{Name}
use Rattle.jn_base.specs.declared.tree.Named.{Named}
use Rattle.jn_base.specs.declared.tree.Method.{Method}
use Rattle.jn_base.specs.declared.tree.Param.{Param}
use Rattle.jn_base.specs.declared.tree.Ref.{Ref}
use Rattle.jn_base.specs.declared.tree.Ref.TheVariants as ref
use Rattle.jn_base.specs.declared.tree.Term.{Term}
use Rattle.jn_base.specs.declared.tree.TypeTerm.{TypeTerm}
use Rattle.jn_base.specs.declared.tree.TypeTerm.TheVariants as type
use Rattle.jn_base.specs.declared.tree.Head.{Head}
use Rattle.jn_base.specs.declared.tree.Head.TheVariants as head
use Rattle.jn_base.specs.declared.tree.Program.{Program}
use Rattle.jn_base.specs.declared.refusal.Refusal.{Refusal}
use Rattle.jn_base.specs.declared.types.Anchor.{Anchor}
use Rattle.jn_base.specs.declared.types.Atom.{Atom as ShownAtom}
use Rattle.jn_base.specs.declared.types.Ty.{Ty}
use Rattle.jn_base.specs.declared.types.Ty.TheVariants as ty
use Rattle.jn_base.specs.declared.names.Spot.{Spot}
use Rattle.jn_base.specs.declared.names.Var.{Var}
use Rattle.jn_base.specs.declared.names.Vars.{Vars}
use Rattle.jn_base.specs.declared.names.Role.{Role}
use Rattle.jn_base.specs.declared.names.Role.TheVariants as role
use Rattle.jn_base.specs.Atoms.{no_masks, atom_of}
use Rattle.jn_base.specs.Resolve.{class_of, scope_at, this_alone, newest, Before, IsPath, NotInScope, NoPath, as_path, of_variable, path_before, taken_off, BoundGives, PathGives, PrefixGives, AnchorGiven, AtomGives, SuitGives, ClassGives, suits, atom_with, Resolve}
use Rattle.jn_base.specs.ResolveTypes.{mask_names, before_all, ResolveAll, none, refused, first as first_term, bounds_at, AtomsGive, ResolveClass, ResolveType}
use Rattle.jn_sem.specs.Terms.{Site, spot_at, vars_at}
use Rattle.jn_sem.specs.Does.{Body, var}
use Rattle.jn_laws.proofs.AlikeScopes.{bounds_like, bound_like}
use Rattle.jn_laws.proofs.Terms.{same_ok, not_both}
use Rattle.jn_rules.specs.Plans.{OfTerm, done, then_do}
use Rattle.jn_rules.specs.Questions.{Gives}
use Rattle.jn_rules.specs.LawsOfPlans.{RepliesAreOne}
use Rattle.jn_rules.specs.Headers.{site_in, param_after, params_typed, result_typed, Header}
use Rattle.jn_rules.proofs.PlanLaws.{then_came, took}
use Rattle.jn_table.specs.declared.table.Table.{Table}
use Rattle.jn_table.specs.Tables.{IsFilled}
use Rattle.jn_lower.specs.Known.{bare_type, bare, bare_form, spot_of, ParamAdded, ParamsFound, AreParamsOf}
use Rattle.jn_lower.proofs.Knowing.{bare_class, bare_alike, bare_more}
use Rattle.jn_lower.proofs.Loops.{at_index}
use Rattle.jn_lower.proofs.Written.{not_refused, Classed, depths_ok}
use Rattle.jn_lower.proofs.Heads.{list_same, header_same}

-- ---- a term stands for the same with masks and without them

abbrev with_vars : List Var → Vars
with_vars vs = record { list = vs }

turned : (v : Var) (vs : List Var) → reverse (v ∷ vs) ≡ reverse vs ++ v ∷ []
turned v vs = reverse-append (v ∷ []) vs

map_turned : (vs : List Var) → reverse (map bare vs) ≡ map bare (reverse vs)
map_turned [] = refl
map_turned (v ∷ vs) =
    turned (bare v) (map bare vs) ∙ ap (λ (l : List Var). l ++ bare v ∷ []) (map_turned vs)
    ∙ put (reverse vs) ∙ ap (map bare) (sym (turned v vs))
  where
    put : (us : List Var) → map bare us ++ bare v ∷ [] ≡ map bare (us ++ v ∷ [])
    put [] = refl
    put (u ∷ us) = ap (λ (l : List Var). bare u ∷ l) (put us)

path_bare : (x : Name) (vs : List Var) → of_variable x (newest (map bare vs) x) ≡ of_variable x (newest vs x)
path_bare x [] = refl
path_bare x (v ∷ vs) = at (nat_eq v.name.0 x.0) (path_bare x vs) where
  here : as_path (bare v) ≡ as_path v
  here = ap (λ (c : Bool). cond (v.fixed && c) (IsPath v.path) NoPath) (bare_class v.ty)

  at : (b : Bool) → of_variable x (newest (map bare vs) x) ≡ of_variable x (newest vs x)
      → of_variable x (cond b (Some (bare v)) (newest (map bare vs) x)) ≡ of_variable x (cond b (Some v) (newest vs x))
  at true e = here
  at false e = e

before_bare : (r : Role) (vs : List Var) (q : Ref) → path_before r (with_vars (map bare vs)) q ≡ path_before r (with_vars vs) q
before_bare r vs ref.This = refl
before_bare r vs (ref.Var x) =
    ap (cond (this_alone r) NoPath)
    (ap (λ (us : List Var). of_variable x (newest us x)) (map_turned vs) ∙ path_bare x (reverse vs))

module _ (p : Program) (sp : Spot) (vs : List Var) (t : Term) where
  path_given : (front : Option Path) (b : Before) (o : Result Anchor Refusal)
      → PathGives p sp (scope_at sp (with_vars (map bare vs))) t front b o → PathGives p sp (scope_at sp (with_vars vs)) t front b o
  path_given front (NotInScope x) o g = g
  path_given front NoPath o g = g
  path_given front (IsPath q) o g =
      subst (λ (B : Path). BoundGives p sp t front q B (taken_off front B) o) (bounds_like (bare_alike (class_of sp) vs) q) g

  path_there : (front : Option Path) (r : Ref) (o : Result Anchor Refusal)
      → PathGives p sp (scope_at sp (with_vars (map bare vs))) t front (path_before sp.role (with_vars (map bare vs)) r) o
      → PathGives p sp (scope_at sp (with_vars vs)) t front (path_before sp.role (with_vars vs) r) o
  path_there front r o g =
      path_given front (path_before sp.role (with_vars vs) r) o
      (subst (λ (b : Before). PathGives p sp (scope_at sp (with_vars (map bare vs))) t front b o) (before_bare sp.role vs r) g)

  prefix_given : (P : List Name) (r : Ref) (f : Result ℕ Name) (o : Result Anchor Refusal)
      → PrefixGives p sp (with_vars (map bare vs)) t P r f o → PrefixGives p sp (with_vars vs) t P r f o
  prefix_given P r (Err N) o g = g
  prefix_given P r (Ok k) o g = path_there (Some (reverse P ++ drop k (class_of sp))) r o g

  anchor_given : (h : Head) (o : Result Anchor Refusal) → AnchorGiven p sp (with_vars (map bare vs)) t h o
      → AnchorGiven p sp (with_vars vs) t h o
  anchor_given head.Plain o g = g
  anchor_given (head.Own r) o g = path_there None r o g
  anchor_given (head.Prefix P r) o g =
      record { found = g.found; sought = g.sought; gives = prefix_given P r g.found o g.gives }

  suit_given : (x : ShownAtom) (b : Bool) (o : Result ShownAtom Refusal) → SuitGives p sp (with_vars (map bare vs)) t x b o
      → SuitGives p sp (with_vars vs) t x b o
  suit_given x false o g = g
  suit_given x true o g =
      subst (λ (B : Path). ClassGives p sp t B x o) (bound_like (bare_alike (class_of sp) vs) (atom_of x)) g

  atom_given : (a : Result Anchor Refusal) (o : Result ShownAtom Refusal) → AtomGives p sp (with_vars (map bare vs)) t a o
      → AtomGives p sp (with_vars vs) t a o
  atom_given (Err r) o g = g
  atom_given (Ok a) o g = suit_given (atom_with a t) (suits sp.role (atom_with a t)) o g

  resolved_bare : (o : Result ShownAtom Refusal) → Resolve p sp (with_vars (map bare vs)) t o → Resolve p sp (with_vars vs) t o
  resolved_bare o g = record {
    anchor = g.anchor;
    given = anchor_given t.head g.anchor g.given;
    gives = atom_given g.anchor o g.gives;
  }

-- ---- a type is the same but for masks

refusal_same : {r s : Refusal} → ◌≡◌ {A = Result ShownAtom Refusal} (Err r) (Err s) → r ≡ s
refusal_same e = cc

module _ (p : Program) (one : RepliesAreOne p) (at : Site) where
  abbrev sp : Spot
  sp = spot_at at role.Value

  term_same : (t : Term) (o q : Result ShownAtom Refusal) → Resolve p sp (with_vars (map bare at.vars)) t o
      → Resolve p sp (vars_at at) t q → o ≡ q
  term_same t o q g h = one (OfTerm role.Value at t) o q (resolved_bare p sp at.vars t o g) h

  all_same : (ts : List Term) (o q : Result (List ShownAtom) Refusal)
      → ResolveAll p sp (with_vars (map bare at.vars)) ts o → ResolveAll p sp (vars_at at) ts q → o ≡ q
  all_same [] o q (none e) (none f) = e ∙ sym f
  all_same (t ∷ ts) o q (refused r g e) (refused s h f) =
      e ∙ ap (λ (z : Refusal). Err z) (refusal_same (term_same t (Err r) (Err s) g h)) ∙ sym f
  all_same (t ∷ ts) o q (refused r g e) (first_term y others h more f) =
      absurd (not_both y r (sym (term_same t (Err r) (Ok y) g h)))
  all_same (t ∷ ts) o q (first_term x others g more e) (refused s h f) =
      absurd (not_both x s (term_same t (Ok x) (Err s) g h))
  all_same (t ∷ ts) o q (first_term x others g more e) (first_term y rest h left f) =
      e ∙ ap (λ (z : ShownAtom). before_all z others) (same_ok x y (term_same t (Ok x) (Ok y) g h))
      ∙ ap (before_all y) (all_same ts others rest more left) ∙ sym f

  record Atoms (vars : Vars) (ts : List Term) (t : Ty) : Type 0 where
    atoms : List ShownAtom
    all : ResolveAll p sp vars ts (Ok atoms)
    classed : Classed atoms t

  atoms_of : (vars : Vars) (names : List Name) (ts : List Term) (ms : List Named) (t : Ty)
      → ResolveClass p names sp vars ts ms (Ok t) → Atoms vars ts t
  atoms_of vars names ts ms t c = by c.atoms c.all c.gives where
    by : (r : Result (List ShownAtom) Refusal) → ResolveAll p sp vars ts r → AtomsGive p names sp vars ts ms r (Ok t)
        → Atoms vars ts t
    by (Err e) all g = absurd (not_refused t e g)
    by (Ok xs) all g = record {
      atoms = xs;
      all = all;
      classed = depths_ok p names sp vars t ts ms (bounds_at sp vars xs) xs g;
    }

  list_of : {xs ys : List ShownAtom} → ◌≡◌ {A = Result (List ShownAtom) Refusal} (Ok xs) (Ok ys) → xs ≡ ys
  list_of e = cc

  pub type_same : (tt : TypeTerm) (names : List Name) (u t : Ty)
      → ResolveType p names sp (with_vars (map bare at.vars)) tt (Ok u)
      → ResolveType p (mask_names p) sp (vars_at at) tt (Ok t) → bare_type u ≡ bare_type t
  type_same type.Int names u t g h = ap bare_type (same_ok u ty.Int g) ∙ ap bare_type (sym (same_ok t ty.Int h))
  type_same type.Bool names u t g h = ap bare_type (same_ok u ty.Bool g) ∙ ap bare_type (sym (same_ok t ty.Bool h))
  type_same (type.Class ts ms) names u t g h =
      let a = atoms_of (with_vars (map bare at.vars)) names ts ms u g in
      let b = atoms_of (vars_at at) (mask_names p) ts ms t h in
      ap bare_type a.classed.is
      ∙ ap (λ (xs : List ShownAtom). ty.Class xs no_masks) (list_of (all_same ts (Ok a.atoms) (Ok b.atoms) a.all b.all))
      ∙ sym (ap bare_type b.classed.is)

-- ---- one parameter after the other

-- those before the place i are these, and those behind it are still to be found
pub record Found (p : Program) (b : Body) (params : List Param) (i : ℕ) (us vars : List Var) : Type 0 where
  pub before : List Var
  pub known : us ≡ map bare before
  pub left : Gives p (params_typed b before (drop i params)) (Ok vars)

abbrev pub ParamsTo : Table → Spot → List Param → ℕ → List Var → Type 0
ParamsTo table sp params i us =
    (p : Program) (b : Body) (vars : List Var) → IsFilled p table → RepliesAreOne p
    → sp ≡ spot_of (shown b.class) b.method.name.name → Gives p (params_typed b [] params) (Ok vars)
    → Found p b params i us vars

pub params_first : (table : Table) (sp : Spot) (params : List Param) (us : List Var) → us ≡ []
    → ParamsTo table sp params 0 us
params_first table sp params us e p b vars filled one is g = record { before = []; known = e; left = g }

pub params_more : (table : Table) (sp : Spot) (params : List Param) (i : ℕ) (x : Param) (us ws : List Var)
    → i < length params → x ≡ get_or params i x → ParamsTo table sp params i us → ParamAdded table sp us ws x
    → ParamsTo table sp params (i + 1) ws
params_more table sp params i x us ws lt at so added p b vars filled one is g =
    let f = so p b vars filled one is g in
    let site = site_in b f.before in
    let asked = subst (λ (xs : List Param). Gives p (params_typed b f.before xs) (Ok vars)) (at_index params i x lt at) f.left in
    let h = took asked.0 (λ t. params_typed b (f.before ++ param_after b f.before x t ∷ []) (drop (i + 1) params)) vars asked.2 in
    let means = subst (λ (o : Result Ty Refusal). ResolveType p (mask_names p) (spot_at site role.Value) (vars_at site) x.ty o) h.is asked.1 in
    let given : ResolveType p [] (spot_at site role.Value) (with_vars (map bare f.before)) x.ty (Ok added.given) =
    subst (λ (vs : List Var). ResolveType p [] (spot_at site role.Value) (with_vars vs) x.ty (Ok added.given)) f.known
    (subst (λ (q : Spot). ResolveType p [] q (with_vars us) x.ty (Ok added.given)) is (added.resolved p filled)) in
    record {
      before = f.before ++ param_after b f.before x h.given ∷ [];
      known = added.is
          ∙ ap (λ (n : ℕ). us ++ var x.name.name (suc n) x.fixed (bare_form sp.class us added.given) ∷ [])
          (ap length f.known ∙ length-map f.before bare)
          ∙ ap (λ (q : Spot). us ++ var x.name.name (suc (length f.before)) x.fixed (bare_form q.class us added.given) ∷ []) is
          ∙ bare_more (shown b.class) us f.before b.class refl f.known x.name.name (suc (length f.before)) x.fixed h.given added.given
          (type_same p one site x.ty [] added.given h.given given means);
      left = h.then;
    }

pub params_over : (table : Table) (sp : Spot) (params : List Param) (i : ℕ) (us : List Var) → length params ≤ i
    → ParamsTo table sp params i us → ParamsFound table sp params us
params_over table sp params i us le so p b vars filled one is g =
    let f = so p b vars filled one is g in
    f.known ∙ ap (map bare) (sym (list_same (subst (λ (xs : List Param). Gives p (params_typed b f.before xs) (Ok vars)) (drop_all i params le) f.left)))

-- ---- the parameters of a header

pub header_vars : (table : Table) (class : ShownPath) (m : Method) (sp : Spot) (us : List Var)
    → sp ≡ spot_of class m.name.name → ParamsFound table sp m.params us → AreParamsOf table class m us
header_vars table class m sp us spot found p b k filled one is same g =
    let x = then_came (params_typed b [] b.method.params) (λ vars. then_do (result_typed b vars b.method.result) (λ t. done (record { vars = vars; result = t }))) k g in
    let y = then_came (result_typed b x.first b.method.result) (λ t. done (record { vars = x.first; result = t })) k x.then in
    found p b x.first filled one
    (spot ∙ ap (λ (c : ShownPath). spot_of c m.name.name) is ∙ ap (λ (z : Method). spot_of (shown b.class) z.name.name) (sym same))
    (subst (λ (z : Method). Gives p (params_typed b [] z.params) (Ok x.first)) same x.gave)
    ∙ ap (λ (z : Header). map bare z.vars) (sym (header_same y.then))
