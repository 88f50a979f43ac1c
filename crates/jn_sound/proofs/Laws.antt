-- The laws of programs that the proof stands on, in the form in which it uses them.
use Rattle.std.proofs.Common.{◌≡◌, ◌<◌, ℕ, suc, List, [], ◌∷◌, ◌++◌, length, Some, None, false, refl, sym, ap, ◌∙◌, ◌+◌, subst, arith, ◌⊎◌, inl, inr}
use Rattle.std.proofs.lemmas.List.{length-append}
use Rattle.jn_base.specs.declared.tree.Param.{Param}
use Rattle.jn_base.specs.declared.tree.Name.{Name}
use Rattle.jn_base.specs.declared.tree.TypeTerm.{TypeTerm}
use Rattle.jn_base.specs.declared.tree.Program.{Program}
use Rattle.jn_base.specs.declared.types.Anchor.TheVariants.{Root, Up}
use Rattle.jn_base.specs.declared.tree.ViewTerm.{ViewTerm}
use Rattle.jn_sem.specs.Holds.{target_family}
use Rattle.jn_base.specs.declared.types.Ty.{Ty}
use Rattle.jn_base.specs.declared.names.Var.{Var}
use Rattle.jn_base.specs.Paths.{Path}
use Rattle.jn_base.specs.Supers.{Sup}
use Rattle.jn_base.specs.Atoms.{Atom, atoms_in, Among}
use Rattle.jn_base.specs.Scopes.{Scope}
use Rattle.jn_base.specs.Fits.{BindsFit}
use Rattle.jn_sem.specs.Sets.{Views, Respects, InType}
use Rattle.jn_sem.specs.Values.{HasField}
use Rattle.jn_sem.specs.Sharing.{IsClass}
use Rattle.jn_sem.specs.Slots.{FieldType, IsSlot, Slot}
use Rattle.jn_sem.specs.Terms.{Site, TypeIs, ViewIs}
use Rattle.jn_sem.specs.Does.{Body, IsBody}
use Rattle.jn_rules.specs.Plans.{FoundField}
use Rattle.jn_rules.specs.Questions.{IsFoundField}
use Rattle.jn_rules.specs.Stmts.{is_void}
use Rattle.jn_sem.specs.Sets.{no_views}
use Rattle.jn_sem.specs.Values.{Value, Reference}
use Rattle.jn_sem.specs.Acts.{stmts_acts}
use Rattle.jn_sem.specs.State.{Heap, HasValue, with_values, has_null_path}
use Rattle.jn_sem.specs.Run.{frame_of, AreIn}
use Rattle.jn_rules.specs.Stmts.{body_in, at_start}
use Rattle.jn_base.specs.declared.types.Ty.TheVariants as ty
use Rattle.jn_base.specs.declared.tree.Expr.{Expr}
use Rattle.jn_base.specs.declared.tree.Stmt.{Stmt}
use Rattle.jn_sem.specs.Acts.{Todo, acts}
use Rattle.jn_rules.specs.Stmts.{In}
use Rattle.jn_sound.specs.Takes.{opd}
use Rattle.jn_sound.specs.Fit.{Narrowed, Fits, IsLoop}
use Rattle.jn_sound.specs.Sound.{InScope, sides_of}
use Rattle.std.specs.Prelude.{Contains, Ok}
use Rattle.jn_base.specs.declared.tree.Constraint.{Constraint}
use Rattle.jn_sem.specs.Holds.{HoldsAt}
use Rattle.jn_rules.specs.Plans.{Pledge}
use Rattle.jn_rules.specs.Questions.{ConstraintGives, header_site}
use Rattle.jn_sound.specs.Callees.{Callee, IsCallee, IsCalled}
use Rattle.jn_rules.specs.Headers.{Header}
use Rattle.jn_rule_laws.specs.LawsOfHeaders.{IsHeader}
use Rattle.jn_laws.specs.LawsOfWritten.{HeaderPaths}
use Rattle.jn_laws.specs.Surely.{Surely}
use Rattle.jn_laws.specs.Reading.{RefersTo, IsReal}
use Rattle.jn_base.specs.Atoms.{first, later}
use Rattle.jn_rules.specs.Verdict.{TreePasses}
use Rattle.jn_sem.specs.LawsOfFinding.{FoundOnceIn}
use Rattle.jn_sem.specs.Does.{AreParamsAfter, var}
use Rattle.jn_rule_laws.specs.LawsOfMembers.{FieldsOf}
use Rattle.jn_laws.specs.LawsOfStores.{StoresOf}
use Rattle.jn_laws.specs.LawsOfWritten.{HeaderPath, of_this, of_param}
use Rattle.jn_laws.specs.LawsOfPlaces.{WithinOf}
use Rattle.jn_laws.proofs.WrittenTypes.{written_kinds}
use Rattle.jn_rule_laws.specs.LawsOfMembers.{BodyAlike}
use Rattle.jn_sound.specs.Callees.{header_of}

pub record Laws (p : Program) : Type 0 where
  pub within : WithinOf p
  pub passes : TreePasses p
  -- what a step asks of the program has one answer; fields, and slots
  pub once : FoundOnceIn p
  pub fields : FieldsOf p
  pub stores : StoresOf p
  -- a body has one header (found once)
  pub header_one : (b : Body) (x y : Header) → IsHeader p b x → IsHeader p b y → x ≡ y
  -- a type that is written is not void
  pub not_void : (at : Site) (t : TypeTerm) (u : Ty) → TypeIs p at t u → is_void u ≡ false
  -- a class in a type is under the bound at which a member was found
  pub field_class : (s : Scope) (v : Views) (t : Ty) (f : Name) (c : FoundField) (V : Path) → BindsFit s
      → Respects p v s
      → (i : IsFoundField p s t f c) → InType p v t V → Sup p V i.bound
  pub method_class : (s : Scope) (v : Views) (t : Ty) (m : Name) (c : Callee) (V : Path) → BindsFit s → Respects p v s
      → IsCalled p s t m c → InType p v t V → Sup p V c.bound
  -- fields: one declaration (E10), one slot; the type of a field hangs on `this` alone
  pub field_at : (V B : Path) (f : Name) (t : Ty) → IsClass p V → Sup p V B → FieldType p B f t → FieldType p V f t
  pub field_has : (V : Path) (f : Name) (t : Ty) → FieldType p V f t → HasField p V f
  pub field_one : (V : Path) (f : Name) (t u : Ty) → FieldType p V f t → FieldType p V f u → t ≡ u
  pub slot_at : (V : Path) (f : Name) → IsClass p V → HasField p V f → Surely ((s : Slot) × IsSlot p V f s)
  pub slot_one : (V : Path) (f : Name) (s t : Slot) → IsSlot p V f s → IsSlot p V f t → s ≡ t
  pub field_paths : (V : Path) (f : Name) (t : Ty) (x : Atom) (q k : ℕ) → FieldType p V f t
      → Among (atoms_in t) x → x.anchor ≡ Up q k → q ≡ 0
  -- law Signatures (E09, E11): the least bodies of a member at a class and at its heir have one signature
  pub signatures : (V B : Path) (m : Name) (c : Callee) → IsClass p V → Sup p V B → c.bound ≡ B → IsCallee p m c
      → Surely (BodyAlike p V m (header_of c))
  pub body_one : (V : Path) (m : Name) (b c : Body) → IsClass p V → IsBody p V m b → IsBody p V m c → b ≡ c
  -- headers: as many parameters as are declared, numbered from 1; types mention `this` and final parameters of class
  -- type
  pub param_count : (b : Body) (x : Header) → IsHeader p b x → length x.vars ≡ length b.method.params
  pub param_paths : (b : Body) (x : Header) → IsHeader p b x → (y : Var) → Among x.vars y → HeaderPaths x.vars y.ty
  pub result_paths : (b : Body) (x : Header) → IsHeader p b x → HeaderPaths x.vars x.result
  pub param_path : (b : Body) (x : Header) → IsHeader p b x → (y : Var) → Among x.vars y → y.path ≡ 0 → ⊥
  pub param_once : (b : Body) (x : Header) → IsHeader p b x → (y z : Var) → Among x.vars y → Among x.vars z
      → y.path ≡ z.path → y ≡ z
  -- the target of a view has a fixed family
  pub target_family : (at : Site) (t : ViewTerm) (x : Atom) → ViewIs p at t x → x.anchor ≡ Root
      → (Y : Name) × (target_family x ≡ Some Y)
  -- a loop that is typed fits once more (by the lemmas on expressions and statements)
  pub loop_fits : (b : In) (vs : List Var) (s : Scope) (path : ℕ) (e : Expr) (body : List Stmt) (k : List Todo)
      → IsLoop p b vs s path e body
      → ((t : Scope) → Narrowed t s → Fits p b k vs t (opd ty.Bool None ∷ [])) → Fits p b
      (stmts_acts (length vs) path body (acts (length vs) e k)) vs s []
  -- a body that begins, with each parameter's value in its type, stands in its scope
  pub entry : (h : Heap) (V : Path) (m : Name) (b : Body) (x : Header) (o : ℕ) (args : List Value)
      → IsBody p V m b → IsHeader p b x → RefersTo p h o V
      → ((g : Name) → HasField p V g → HasValue p h o V g) → length args ≡ length x.vars
      → has_null_path (with_values x.vars args) ≡ false → ((y : Value) → Among args y → IsReal p h y)
      → AreIn p (frame_of (record { class = b.class; method = b.method; vars = x.vars }) (Reference o V) args) h
      → InScope p h (frame_of (record { class = b.class; method = b.method; vars = x.vars })
      (Reference o V) args) no_views x.vars (at_start b x).scope
  -- and so does one of a class above the receiver's, where the constraints in its header hold at the receiver's view
  pub entry_above : (h : Heap) (V B : Path) (m : Name) (b : Body) (x : Header) (o : ℕ) (args : List Value)
      → IsBody p B m b → Sup p V B
      → ((c : Constraint) (k : Pledge) → Contains b.method.sharing c
      → ConstraintGives p (header_site b.class b.method.name.name) c (Ok k) → Surely (HoldsAt p V (sides_of p k)))
      → IsHeader p b x → RefersTo p h o V
      → ((g : Name) → HasField p V g → HasValue p h o V g) → length args ≡ length x.vars
      → has_null_path (with_values x.vars args) ≡ false → ((y : Value) → Among args y → IsReal p h y)
      → AreIn p (frame_of (record { class = b.class; method = b.method; vars = x.vars }) (Reference o V) args) h
      → InScope p h (frame_of (record { class = b.class; method = b.method; vars = x.vars })
      (Reference o V) args) no_views x.vars (at_start b x).scope
  -- each body of the program fits where it begins
  pub body_fits : (V : Path) (m : Name) (b : Body) (x : Header) → IsClass p V → IsBody p V m b → IsHeader p b x
      → Fits p (body_in b x) (stmts_acts (length x.vars) (suc (length x.vars)) b.method.body []) x.vars
      (at_start b x).scope []

-- ---- parameters

-- the parameter y: it has a number, behind those before, and its type mentions those
pub record ParamOf (all : List Var) (y : Var) : Type 0 where
  pub path : y.path ≡ 0 → ⊥
  pub paths : HeaderPaths all y.ty

wider_paths : (xs ys : List Var) (t : Ty) → ((y : Var) → Among xs y → Among ys y) → HeaderPaths xs t → HeaderPaths ys t
wider_paths xs ys t h g x q k m e = at (g x q k m e) where
  at : HeaderPath xs q → HeaderPath ys q
  at (of_this z) = of_this z
  at (of_param y a b c d) = of_param y (h y a) b c d

among_left : (xs ys : List Var) (y : Var) → Among xs y → Among (xs ++ ys) y
among_left _ ys _ first = first
among_left _ ys y (later a) = later (among_left _ ys y a)

pub among_right : (xs : List Var) (x y : Var) → Among (xs ++ x ∷ []) y → Among xs y ⊎ (y ≡ x)
among_right [] x _ first = inr refl
among_right [] x y (later a) = elim a [ ]
among_right (z ∷ zs) x _ first = inl first
among_right (z ∷ zs) x y (later a) = at (among_right zs x y a) where
  at : Among zs y ⊎ (y ≡ x) → Among (z ∷ zs) y ⊎ (y ≡ x)
  at (inl b) = inl (later b)
  at (inr e) = inr e

-- what holds of the parameters so far
pub record ParamsSo (vars : List Var) : Type 0 where
  pub each : (y : Var) → Among vars y → ParamOf vars y
  pub older : (y : Var) → Among vars y → y.path < suc (length vars)
  pub once : (y z : Var) → Among vars y → Among vars z → y.path ≡ z.path → y ≡ z

one_param_more : (p : Program) (b : Body) (before : List Var) (x : Param) (t : Ty) → ParamsSo before
    → TypeIs p (record { class = b.class; method = b.method.name.name; vars = before }) x.ty t → ParamsSo
    (before ++ var x.name.name (suc (length before)) x.fixed t ∷ [])
one_param_more p b before x t s i = record { each = each; older = older; once = once } where
  v : Var
  v = var x.name.name (suc (length before)) x.fixed t

  count : length (before ++ var x.name.name (suc (length before)) x.fixed t ∷ []) ≡ suc (length before)
  count = omega (arith, length-append before (v ∷ []))

  each_at : (y : Var) → Among before y ⊎ (y ≡ v) → ParamOf (before ++ v ∷ []) y
  each_at y (inl a) =
      record {
        path = (s.each y a).path;
        paths = wider_paths before (before ++ v ∷ []) y.ty
            (λ z m. among_left before (v ∷ []) z m) (s.each y a).paths;
      }
  each_at y (inr e) = subst (ParamOf (before ++ v ∷ [])) (sym e) (record {
    path = λ z. omega (arith, z);
    paths = wider_paths before (before ++ v ∷ []) t (λ z m. among_left before (v ∷ []) z m)
        ((written_kinds p).paths (record { class = b.class; method = b.method.name.name; vars = before }) x.ty t
        (λ z m. (s.each z m).paths) i);
  })

  each : (y : Var) → Among (before ++ var x.name.name (suc (length before)) x.fixed t ∷ []) y
      → ParamOf (before ++ var x.name.name (suc (length before)) x.fixed t ∷ []) y
  each y m = each_at y (among_right before v y m)

  older_at : (y : Var) → Among before y ⊎ (y ≡ v) → y.path < suc (length (before ++ v ∷ []))
  older_at y (inl a) = let l = s.older y a in omega (arith, l, count)
  older_at y (inr e) = let l = ap (λ (u : Var). u.path) e in omega (arith, l, count)

  older : (y : Var) → Among (before ++ var x.name.name (suc (length before)) x.fixed t ∷ []) y
      → y.path < suc (length (before ++ var x.name.name (suc (length before)) x.fixed t ∷ []))
  older y m = older_at y (among_right before v y m)

  once_at : (y z : Var) → Among before y ⊎ (y ≡ v) → Among before z ⊎ (z ≡ v) → y.path ≡ z.path → y ≡ z
  once_at y z (inl a) (inl c) e = s.once y z a c e
  once_at y z (inl a) (inr c) e =
      let l = s.older y a in let o = ap (λ (u : Var). u.path) c in absurd (omega (arith, l, o, e))
  once_at y z (inr a) (inl c) e =
      let l = s.older z c in let o = ap (λ (u : Var). u.path) a in absurd (omega (arith, l, o, e))
  once_at y z (inr a) (inr c) e = a ∙ sym c

  once : (y z : Var) → Among (before ++ var x.name.name (suc (length before)) x.fixed t ∷ []) y
      → Among (before ++ var x.name.name (suc (length before)) x.fixed t ∷ []) z → y.path ≡ z.path → y ≡ z
  once y z m n e = once_at y z (among_right before v y m) (among_right before v z n) e

params_so : (p : Program) (b : Body) (before : List Var) (xs : List Param) (all : List Var) → ParamsSo before
    → AreParamsAfter p b before xs all
    → ParamsSo all × (length all ≡ length before + length xs)
params_so p b before [] all s h = (subst ParamsSo (sym h) s, omega (arith, ap (λ (l : List Var). length l) h))
params_so p b before (x ∷ xs) all s h =
    let v = var x.name.name (suc (length before)) x.fixed h.0 in
    let r = params_so p b (before ++ v ∷ []) xs all (one_param_more p b before x h.0 s h.1) h.2 in
    (r.0, omega (arith, r.1, length-append before (v ∷ [])))

no_params : ParamsSo []
no_params = record { each = λ y a. elim a [ ]; older = λ y a. elim a [ ]; once = λ y z a b e. elim a [ ] }

pub header_params : (p : Program) (b : Body) (x : Header) → IsHeader p b x
    → ParamsSo x.vars × (length x.vars ≡ length b.method.params)
header_params p b x i = let r = params_so p b [] b.method.params x.vars no_params i.params in (r.0, omega (arith, r.1))
