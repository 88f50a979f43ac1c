-- What is known of a type that resolves, and of its normal form.
use Rattle.std.proofs.Common.{◌≡◌, ◌<◌, ◌≤◌, ◌+◌, ◌-◌, ℕ, List, [], ◌∷◌, ◌++◌, length, map, Option, Some, None, Bool, true, false, refl, sym, ap, ◌∙◌, subst, ◌⊎◌, inl, inr, arith}
use Rattle.std.specs.Prelude.{Result, Ok, Err, reverse, Contains}
use Rattle.std.proofs.lemmas.List.{length-append, length-reverse, append-nil, reverse-reverse, reverse-append, map-append}
use Rattle.jn_base.specs.declared.tree.Name.{Name}
use Rattle.jn_base.specs.declared.tree.Named.{Named}
use Rattle.jn_base.specs.declared.tree.Term.{Term}
use Rattle.jn_base.specs.declared.tree.TypeTerm.{TypeTerm}
use Rattle.jn_base.specs.declared.tree.TypeTerm.TheVariants as type
use Rattle.jn_base.specs.declared.tree.ViewTerm.{ViewTerm}
use Rattle.jn_base.specs.declared.tree.Kind.TheVariants as kind
use Rattle.jn_base.specs.declared.tree.Program.{Program}
use Rattle.jn_base.specs.declared.types.Anchor.{Anchor}
use Rattle.jn_base.specs.declared.types.Anchor.TheVariants.{Root, Up}
use Rattle.jn_base.specs.declared.types.Atom.{Atom as ShownAtom}
use Rattle.jn_base.specs.declared.types.Masks.{Masks}
use Rattle.jn_base.specs.declared.types.Ty.{Ty}
use Rattle.jn_base.specs.declared.types.Ty.TheVariants as ty
use Rattle.jn_base.specs.declared.names.Role.{Role}
use Rattle.jn_base.specs.declared.names.Role.TheVariants as role
use Rattle.jn_base.specs.declared.names.Spot.{Spot}
use Rattle.jn_base.specs.declared.names.Var.{Var}
use Rattle.jn_base.specs.declared.names.Vars.{Vars}
use Rattle.jn_base.specs.declared.refusal.Refusal.{Refusal}
use Rattle.jn_base.specs.Paths.{Path}
use Rattle.jn_base.specs.Universe.{InUniverse}
use Rattle.jn_base.specs.Members.{HasKind}
use Rattle.jn_base.specs.Atoms.{Atom, atom_at, anchor_at, atoms_in, atom_of, shown_atom, lifted, Among, first, later}
use Rattle.jn_base.specs.Scopes.{Bind, Scope, bound, Binds, this_atom, this_bind}
use Rattle.jn_base.specs.Fits.{Anchored, AtomsFit, TypeFits, BindsFit}
use Rattle.std.proofs.lemmas.Bool.{ltb-true}
use Rattle.jn_sem.specs.Sets.{view_at, no_views}
use Rattle.jn_sem.specs.Sharing.{family_of}
use Rattle.jn_sem.specs.Holds.{target_family}
use Rattle.jn_base.specs.Resolve.{has_exact, is_fixed, var_bind, class_of, IsOfClass, bound_at, this_alone}
use Rattle.jn_base.specs.ResolveTypes.{mask_names, ResolveAll, none, refused, first as first_term, bounds_at, OneDepth, UnfitGives, MasksGive, may_mask, DepthsGive, many, one, AtomsGive, ResolveType, ResolveView, UnmaskedGives}
use Rattle.jn_base.proofs.Reaching.{declared_in_universe}
use Rattle.jn_sem.specs.Normal.{normal, rewritten, moved, same_path, NormalType}
use Rattle.jn_sem.specs.LawsOfSlots.{HeadNamed}
use Rattle.jn_sem.specs.Terms.{Site, spot_at, vars_at, TypeIs, FieldTypeIs}
use Rattle.jn_sem.proofs.FindingLaws.{contains_of}
use Rattle.jn_sem.proofs.Normals.{Turns, turned, left, rewritten_is}
use Rattle.jn_sem.proofs.NormalTypes.{map_among, moved_same, normal_fits}
use Rattle.jn_sem.proofs.Levels.{normal_depth}
use Rattle.jn_sem.proofs.Under.{bound_later, type_anchored, fits_whole}
use Rattle.jn_laws.specs.LawsOfViews.{OfThis}
use Rattle.jn_laws.specs.LawsOfWritten.{TypeWellFormed, Shallow, HeaderPath, of_this, of_param, HeaderPaths, IsWritten, site_with, scope_of, SiteFits, TypeThere, IsTypeRole, IsSide, WrittenTypes, WrittenKinds, ThisAlone, TargetsHaveFamilies}
use Rattle.jn_laws.proofs.Bounded.{heir_there}
use Rattle.jn_laws.proofs.Lists.{among_left, among_map}
use Rattle.jn_laws.proofs.Terms.{not_both, same_ok, reverse_among, Mentioned, this, variable, header_path, TermCase, term_case, case_path, anchored_case, var_among}

-- ---- the atoms of a type

-- each atom is that of a term
pub record OfTerm (p : Program) (sp : Spot) (vs : Vars) (ts : List Term) (y : ShownAtom) : Type 0 where
  pub term : Term
  pub among : Among ts term
  pub is : TermCase p sp vs term y

split : {A : Type 0} (x : A) (ys : List A) (z : A) → Among (x ∷ ys) z → (z ≡ x) ⊎ Among ys z
split x ys _ first = inl refl
split x ys z (later m) = inr m

module _ (p : Program) (sp : Spot) (vs : Vars) where
  all_cases : (ts : List Term) (o : Result (List ShownAtom) Refusal) (xs : List ShownAtom) → ResolveAll p sp vs ts o → o ≡ Ok xs
      → (y : ShownAtom) → Among xs y → OfTerm p sp vs ts y
  all_cases [] o xs (none e) i y m = absurd (in_nothing xs (same_ok xs [] (sym i ∙ e)) m) where
    in_nothing : (zs : List ShownAtom) → zs ≡ [] → Among zs y → ⊥
    in_nothing zs j a = elim (subst (λ (us : List ShownAtom). Among us y) j a) [ ]
  all_cases (t ∷ ts) o xs (refused r g e) i y m = absurd (not_both xs r (sym i ∙ e))
  all_cases (t ∷ ts) o xs (first_term x (Err r) g gs e) i y m = absurd (not_both xs r (sym i ∙ e))
  all_cases (t ∷ ts) o xs (first_term x (Ok ys) g gs e) i y m =
      at (split x ys y (subst (λ (us : List ShownAtom). Among us y) (same_ok xs (x ∷ ys) (sym i ∙ e)) m)) (all_cases ts (Ok ys) ys gs refl y) where
        at : (y ≡ x) ⊎ Among ys y → (Among ys y → OfTerm p sp vs ts y) → OfTerm p sp vs (t ∷ ts) y
        at (inl j) again = record { term = t; among = first; is = subst (TermCase p sp vs t) (sym j) (term_case p sp vs t x g) }
        at (inr n) again = let r = again n in record { term = r.term; among = later r.among; is = r.is }

  all_there : (ts : List Term) (o : Result (List ShownAtom) Refusal) (xs : List ShownAtom) → ResolveAll p sp vs ts o → o ≡ Ok xs → 0 < length ts → (y : ShownAtom) × Among xs y
  all_there [] o xs (none e) i l = absurd (omega (arith, l))
  all_there (t ∷ ts) o xs (refused r g e) i l = absurd (not_both xs r (sym i ∙ e))
  all_there (t ∷ ts) o xs (first_term x (Err r) g gs e) i l = absurd (not_both xs r (sym i ∙ e))
  all_there (t ∷ ts) o xs (first_term x (Ok ys) g gs e) i l = (x, subst (λ (us : List ShownAtom). Among us x) (sym (same_ok xs (x ∷ ys) (sym i ∙ e))) first)

  -- what is given: these atoms with some masks, and their bounds have one depth
  pub record Given (xs : List ShownAtom) (u : Ty) : Type 0 where
    pub masks : Masks
    pub is : u ≡ ty.Class xs masks
    pub depth : OneDepth (bounds_at sp vs xs)

  unfit : (names : List Name) (xs : List ShownAtom) (ms : List Named) (u : Ty) (o : Option Named) → UnfitGives names sp xs ms o (Ok u) → (m : Masks) × (u ≡ ty.Class xs m)
  unfit names xs ms u (Some n) g = absurd (not_both u _ g)
  unfit names xs ms u None g = (g.masks, same_ok u (ty.Class xs g.masks) g.gives)

  unmasked : (names : List Name) (xs : List ShownAtom) (ms : List Named) (u : Ty) → UnmaskedGives names sp xs ms (Ok u) → (m : Masks) × (u ≡ ty.Class xs m)
  unmasked names xs [] u g = (g.masks, same_ok u (ty.Class xs g.masks) g.gives)
  unmasked names xs (m ∷ ms) u g = absurd (not_both u _ g)

  masked : (names : List Name) (Bs : List Path) (xs : List ShownAtom) (ms : List Named) (b : Bool) (u : Ty) → MasksGive p names sp Bs xs ms b (Ok u)
      → (m : Masks) × (u ≡ ty.Class xs m)
  masked names Bs xs ms true u g = unfit names xs ms u g.first g.gives
  masked names Bs xs ms false u g = unmasked names xs ms u g

  depths : (names : List Name) (ts : List Term) (ms : List Named) (xs : List ShownAtom) (u : Ty) → DepthsGive p names sp ts ms (bounds_at sp vs xs) xs (Ok u) → Given xs u
  depths names ts ms xs u (many v w us n e g) = absurd (not_both u _ g)
  depths names ts ms xs u (one n g) = let m = masked names (bounds_at sp vs xs) xs ms (may_mask sp.role) u g in record { masks = m.0; is = m.1; depth = n }

  among_bounds : (xs : List ShownAtom) (y : ShownAtom) → Among xs y → Among (bounds_at sp vs xs) (bound_at sp vs y)
  among_bounds _ y first = first
  among_bounds _ y (later m) = later (among_bounds _ y m)

  -- a class type that resolves
  pub record ClassCase (ts : List Term) (u : Ty) : Type 0 where
    pub atoms : List ShownAtom
    pub given : Given atoms u
    pub each : (y : ShownAtom) → Among atoms y → OfTerm p sp vs ts y
    pub some : 0 < length ts → (y : ShownAtom) × Among atoms y

  pub class_case : (names : List Name) (ts : List Term) (ms : List Named) (r : Result (List ShownAtom) Refusal) (u : Ty) → ResolveAll p sp vs ts r
      → AtomsGive p names sp vs ts ms r (Ok u) → ClassCase ts u
  class_case names ts ms (Err r) u all g = absurd (not_both u r g)
  class_case names ts ms (Ok xs) u all g = record {
    atoms = xs;
    given = depths names ts ms xs u g;
    each = all_cases ts (Ok xs) xs all refl;
    some = all_there ts (Ok xs) xs all refl;
  }

  -- an atom of the type is that of a term
  pub atom_case : (ts : List Term) (u : Ty) (c : ClassCase ts u) (x : Atom) → Among (atoms_in u) x → (y : ShownAtom) × Among c.atoms y × (x ≡ atom_of y)
  atom_case ts u c x m =
      let r = map_among atom_of c.atoms x (subst (λ (t : Ty). Among (atoms_in t) x) c.given.is m) in (r.0, r.1, sym r.2)

-- ---- its bounds are in the universe

kind_there : (p : Program) (B : Path) → HasKind p B kind.Class → InUniverse p B
kind_there p B k = heir_there k.super (declared_in_universe p k.at k.decl k.stands)

pub role_there : (p : Program) (r : Role) (B : Path) → IsTypeRole r → IsOfClass p r B → InUniverse p B
role_there p role.Field B i k = kind_there p B k
role_there p role.Value B i k = kind_there p B k
role_there p role.From B i k = kind_there p B k
role_there p role.To B i k = kind_there p B k
role_there p role.View B i k = kind_there p B k
role_there p role.New B i k = absurd i
role_there p role.Super B i k = absurd i

universe_long : (p : Program) (B : Path) → InUniverse p B → 0 < length B
universe_long p [] u = absurd u
universe_long p (C ∷ P) u = omega arith

module _ (p : Program) (deep : Shallow p) (at : Site) (r : Role) (typed : IsTypeRole r) (ok : SiteFits p at) where
  abbrev spot_here : Spot
  spot_here = spot_at at r

  abbrev vars_here : Vars
  vars_here = vars_at at

  of_class : (ts : List Term) → 0 < length ts → ((t : Term) → Among ts t → HeadNamed t.head) → (u : Ty) → ClassCase p spot_here vars_here ts u → TypeThere at u
  of_class ts l n u c = subst (TypeThere at) (sym c.given.is) (record {
    written = tt;
    fits = record { atoms = λ i. fits };
    named = λ x m. universe_long p _ (there x m);
    paths = λ x q k m e. let y = of_atom x m in let t = c.each y.0 y.1 in header_path r at.vars q (case_path spot_here vars_here t.term.head y.0.anchor q k t.is.anchor (ap (λ (z : Atom). z.anchor) (sym y.2) ∙ e));
  }) where
    of_atom : (x : Atom) → Among (map atom_of c.atoms) x → (y : ShownAtom) × Among c.atoms y × (x ≡ atom_of y)
    of_atom x m = let s = map_among atom_of c.atoms x m in (s.0, s.1, sym s.2)

    there : (x : Atom) → Among (map atom_of c.atoms) x → InUniverse p (bound (scope_of at) x)
    there x m =
        let y = of_atom x m in
        subst (λ (z : Atom). InUniverse p (bound (scope_of at) z)) (sym y.2) (role_there p r _ typed (c.each y.0 y.1).is.class)

    bound_in : (y : ShownAtom) → Among c.atoms y → Contains (bounds_at spot_here vars_here c.atoms) (bound (scope_of at) (atom_of y))
    bound_in y m = contains_of (bounds_at spot_here vars_here c.atoms) (bound_at spot_here vars_here y) (among_bounds p spot_here vars_here c.atoms y m)

    head : (y : ShownAtom) × Among c.atoms y
    head = c.some l

    fits : AtomsFit (scope_of at) (map atom_of c.atoms)
    fits = record {
      one = atom_of head.0;
      among = among_map atom_of c.atoms head.0 head.1;
      anchored = λ x m. let y = of_atom x m in let t = c.each y.0 y.1 in
          subst (λ (z : Atom). Anchored (scope_of at) z.anchor) (sym y.2) (anchored_case p at r ok t.term.head y.0.anchor (n t.term t.among) t.is.anchor);
      depth = λ x m. let y = of_atom x m in
          ap (λ (z : Atom). length (bound (scope_of at) z)) y.2
          ∙ c.given.depth (bound (scope_of at) (atom_of y.0)) (bound (scope_of at) (atom_of head.0)) (bound_in y.0 y.1) (bound_in head.0 head.1);
      shallow = deep _ (there (atom_of head.0) (among_map atom_of c.atoms head.0 head.1));
    }

-- ---- normal forms

lifted_up : (n q k : ℕ) (a : Anchor) → lifted n a ≡ Up q k → (j : ℕ) × (a ≡ Up q j)
lifted_up n q k Root e = absurd (no e) where
  no : Root ≡ Up q k → ⊥
  no e = cc
lifted_up n q k (Up r j) e = (j, ap (λ (z : ℕ). Up z j) (same e)) where
  same : Up r (j + n) ≡ Up q k → r ≡ q
  same e = cc

-- a path of the normal form is one of the atom, or of a type in the scope
normal_path : (T : ℕ → Type 0) (s : Scope) → ((b : Bind) → Among s b → (z : Atom) → Among (atoms_in b.ty) z → (q k : ℕ) → z.anchor ≡ Up q k → T q)
    → (x : Atom) → ((q k : ℕ) → x.anchor ≡ Up q k → T q) → (q k : ℕ) → (normal s x).anchor ≡ Up q k → T q
normal_path T [] h x own q k e = own q k e
normal_path T (b ∷ s) h x own q k e = normal_path T s (λ c m. h c (later m)) (rewritten b x) (at (rewritten_is b x)) q k e where
  at : Turns b x (rewritten b x) → (q k : ℕ) → (rewritten b x).anchor ≡ Up q k → T q
  at (turned j z i m w g) q k e =
      let l = lifted_up (j - length z.names - length z.exact) q k z.anchor (sym (ap (λ (y : Atom). y.anchor) g) ∙ e) in h b first z m q l.0 l.1
  at (left g n) q k e = own q k (sym (ap (λ (y : Atom). y.anchor) g) ∙ e)

-- the paths of the types in a scope of variables
no_root : (q k : ℕ) → Root ≡ Up q k → ⊥
no_root q k e = cc

scope_paths : (at : Site) → ((v : Var) → Among at.vars v → HeaderPaths at.vars v.ty) → (b : Bind) → Among (scope_of at) b → (z : Atom) → Among (atoms_in b.ty) z
    → (q k : ℕ) → z.anchor ≡ Up q k → HeaderPath at.vars q
scope_paths at own b m z n q k e = in_it (reverse_among (this_bind (class_of (spot_at at role.Value)) ∷ map var_bind at.vars) b m) n where
  in_this : (c : Bind) → c ≡ this_bind (class_of (spot_at at role.Value)) → Among (atoms_in c.ty) z → HeaderPath at.vars q
  in_this c i n = alone (subst (λ (d : Bind). Among (atoms_in d.ty) z) i n) where
    alone : Among (atoms_in (this_bind (class_of (spot_at at role.Value))).ty) z → HeaderPath at.vars q
    alone n = by z n e where
      by : (y : Atom) → Among (atoms_in (this_bind (class_of (spot_at at role.Value))).ty) y → y.anchor ≡ Up q k → HeaderPath at.vars q
      by _ first e = absurd (no_root q k e)
      by y (later o) e = elim o [ ]

  in_it : Among (this_bind (class_of (spot_at at role.Value)) ∷ map var_bind at.vars) b → Among (atoms_in b.ty) z → HeaderPath at.vars q
  in_it m n = at_bind (split _ (map var_bind at.vars) b m) where
    at_bind : (b ≡ this_bind (class_of (spot_at at role.Value))) ⊎ Among (map var_bind at.vars) b → HeaderPath at.vars q
    at_bind (inl i) = in_this b i n
    at_bind (inr o) =
        let v = map_among var_bind at.vars b o in
        own v.0 v.1 z q k (subst (λ (c : Bind). Among (atoms_in c.ty) z) (sym v.2) n) e

written_kept : (s : Scope) (t u : Ty) → IsWritten t → NormalType s t u → IsWritten u
written_kept s (ty.Class xs m) (ty.Class ys n) w i = tt
written_kept s (ty.Class xs m) ty.Int w i = tt
written_kept s (ty.Class xs m) ty.Bool w i = tt
written_kept s (ty.Class xs m) ty.Null w i = i
written_kept s (ty.Class xs m) ty.Void w i = i
written_kept s ty.Int u w i = subst IsWritten (sym i) tt
written_kept s ty.Bool u w i = subst IsWritten (sym i) tt
written_kept s ty.Null u w i = absurd w
written_kept s ty.Void u w i = absurd w

normal_from : (s : Scope) (t u : Ty) → NormalType s t u → (x : Atom) → Among (atoms_in u) x → (y : Atom) × Among (atoms_in t) y × (x ≡ normal s (moved same_path y))
normal_from s (ty.Class xs m) (ty.Class ys n) i x a = i.0.only x a
normal_from s (ty.Class xs m) ty.Int i x a = absurd i
normal_from s (ty.Class xs m) ty.Bool i x a = absurd i
normal_from s (ty.Class xs m) ty.Null i x a = absurd i
normal_from s (ty.Class xs m) ty.Void i x a = absurd i
normal_from s ty.Int u i x a = elim (subst (λ (z : Ty). Among (atoms_in z) x) i a) [ ]
normal_from s ty.Bool u i x a = elim (subst (λ (z : Ty). Among (atoms_in z) x) i a) [ ]
normal_from s ty.Null u i x a = elim (subst (λ (z : Ty). Among (atoms_in z) x) i a) [ ]
normal_from s ty.Void u i x a = elim (subst (λ (z : Ty). Among (atoms_in z) x) i a) [ ]

-- a type that is there stays so in normal form
module _ (p : Program) (at : Site) (ok : SiteFits p at) where
  normal_there : (t u : Ty) → TypeThere at t → NormalType (scope_of at) t u → TypeThere at u
  normal_there t u h n = record {
    written = written_kept (scope_of at) t u h.written n;
    fits = normal_fits (scope_of at) t u ok.binds h.fits n;
    named = λ x m. let o = normal_from (scope_of at) t u n x m in long x o.0 o.2 (type_anchored h.fits o.0 o.1) (h.named o.0 o.1);
    paths = λ x q k m e. let o = normal_from (scope_of at) t u n x m in path x o.0 o.2 (λ r j i. h.paths o.0 r j o.1 i) q k e;
  } where
    long : (x y : Atom) → x ≡ normal (scope_of at) (moved same_path y) → Anchored (scope_of at) y.anchor → 0 < length (bound (scope_of at) y)
        → 0 < length (bound (scope_of at) x)
    long x y e a l =
        let e' : x ≡ normal (scope_of at) y = e ∙ ap (normal (scope_of at)) (moved_same y) in
        let d : length (bound (scope_of at) x) ≡ length (bound (scope_of at) y) =
        ap (λ (z : Atom). length (bound (scope_of at) z)) e' ∙ normal_depth (scope_of at) ok.binds y a in
        omega (arith, l, d)

    path : (x y : Atom) → x ≡ normal (scope_of at) (moved same_path y) → ((r j : ℕ) → y.anchor ≡ Up r j → HeaderPath at.vars r)
        → (q k : ℕ) → x.anchor ≡ Up q k → HeaderPath at.vars q
    path x y e own q k i =
        let e' : x.anchor ≡ (normal (scope_of at) y).anchor = ap (λ (z : Atom). z.anchor) (e ∙ ap (normal (scope_of at)) (moved_same y)) in
        normal_path (HeaderPath at.vars) (scope_of at) (scope_paths at ok.paths) y own q k (sym e' ∙ i)

int_there : (at : Site) → TypeThere at ty.Int
int_there at = record { written = tt; fits = record { atoms = λ i. absurd i }; named = λ x m. elim m [ ]; paths = λ x q k m e. elim m [ ] }

bool_there : (at : Site) → TypeThere at ty.Bool
bool_there at = record { written = tt; fits = record { atoms = λ i. absurd i }; named = λ x m. elim m [ ]; paths = λ x q k m e. elim m [ ] }

pub of_role : (p : Program) → Shallow p → (r : Role) (at : Site) → IsTypeRole r → SiteFits p at → (names : List Name) (t : TypeTerm) (u : Ty) → TypeWellFormed t
    → ResolveType p names (spot_at at r) (vars_at at) t (Ok u) → TypeThere at u
of_role p deep r at typed ok names type.Int u w g = subst (TypeThere at) (sym (same_ok u ty.Int g)) (int_there at)
of_role p deep r at typed ok names type.Bool u w g = subst (TypeThere at) (sym (same_ok u ty.Bool g)) (bool_there at)
of_role p deep r at typed ok names (type.Class ts ms) u w g =
    of_class p deep at r typed ok ts w.0 w.1 u (class_case p (spot_at at r) (vars_at at) names ts ms g.atoms u g.all g.gives)

-- ---- places

module _ (p : Program) (deep : Shallow p) where
  pub no_variable : (Q : Path) (m : Name) → InUniverse p Q → SiteFits p (site_with Q m [])
  no_variable Q m u = record {
    class = u;
    binds = (tt, λ b. elim b.among [ ], record { atoms = λ i. fits });
    named = λ v m. elim m [ ];
    paths = λ v m. elim m [ ];
  } where
    C : Path
    C = class_of (spot_at (site_with Q m []) role.Value)

    alone : (x : Atom) → Among (atoms_in (this_bind C).ty) x → x ≡ atom_of (shown_atom (this_atom C))
    alone _ first = refl
    alone x (later m) = elim m [ ]

    fits : AtomsFit [] (atoms_in (this_bind C).ty)
    fits = record {
      one = atom_of (shown_atom (this_atom C));
      among = first;
      anchored = λ x m. subst (λ (z : Atom). Anchored [] z.anchor) (sym (alone x m)) tt;
      depth = λ x m. ap (λ (z : Atom). length (bound [] z)) (alone x m);
      shallow = subst (λ (R : Path). length R ≤ 255) (sym (append-nil _ ∙ reverse-reverse C ∙ reverse-reverse Q)) (deep Q u);
    }

  pub scope_more : (at : Site) (x : Var) → scope_of (site_with at.class at.method (at.vars ++ x ∷ [])) ≡ var_bind x ∷ scope_of at
  scope_more at x =
      ap (λ (bs : List Bind). reverse (this_bind (class_of (spot_at at role.Value)) ∷ bs)) (map-append var_bind at.vars (x ∷ []))
      ∙ reverse-append (this_bind (class_of (spot_at at role.Value)) ∷ map var_bind at.vars) (var_bind x ∷ [])

  path_more : (vs : List Var) (x : Var) (q : ℕ) → HeaderPath vs q → HeaderPath (vs ++ x ∷ []) q
  path_more vs x q (of_this e) = of_this e
  path_more vs x q (of_param y m e f c) = of_param y (among_left vs (x ∷ []) m) e f c

  pub among_more : (vs : List Var) (x v : Var) → Among (vs ++ x ∷ []) v → Among vs v ⊎ (v ≡ x)
  among_more [] x _ first = inr refl
  among_more [] x v (later m) = elim m [ ]
  among_more (y ∷ vs) x _ first = inl first
  among_more (y ∷ vs) x v (later m) = at (among_more vs x v m) where
    at : Among vs v ⊎ (v ≡ x) → Among (y ∷ vs) v ⊎ (v ≡ x)
    at (inl n) = inl (later n)
    at (inr e) = inr e

  pub one_more : (at : Site) (x : Var) → SiteFits p at → TypeThere at x.ty → (Binds (scope_of at) x.path → ⊥)
      → SiteFits p (site_with at.class at.method (at.vars ++ x ∷ []))
  one_more at x ok t free = record {
    class = ok.class;
    binds = subst BindsFit (sym (scope_more at x)) more;
    named = λ v m z n. subst (λ (s : Scope). 0 < length (bound s z)) (sym (scope_more at x)) (long v (among_more at.vars x v m) z n);
    paths = λ v m. path v (among_more at.vars x v m);
  } where
    more : BindsFit (var_bind x ∷ scope_of at)
    more = (ok.binds, free, t.fits)

    of_var : (v : Var) → Among at.vars v → TypeFits (scope_of at) v.ty
    of_var v m = fits_whole (var_among p at role.Value ok v m) ok.binds

    long : (v : Var) → Among at.vars v ⊎ (v ≡ x) → (z : Atom) → Among (atoms_in v.ty) z → 0 < length (bound (var_bind x ∷ scope_of at) z)
    long v (inl m) z n = subst (λ (R : Path). 0 < length R) (sym (bound_later more z (type_anchored (of_var v m) z n))) (ok.named v m z n)
    long v (inr e) z n =
        let o = subst (λ (y : Var). Among (atoms_in y.ty) z) e n in
        subst (λ (R : Path). 0 < length R) (sym (bound_later more z (type_anchored t.fits z o))) (t.named z o)

    path : (v : Var) → Among at.vars v ⊎ (v ≡ x) → HeaderPaths (at.vars ++ x ∷ []) v.ty
    path v (inl m) y q k n e = path_more at.vars x q (ok.paths v m y q k n e)
    path v (inr i) y q k n e = path_more at.vars x q (t.paths y q k (subst (λ (w : Var). Among (atoms_in w.ty) y) i n) e)

  of_field : (Q : Path) (f : Name) (t : TypeTerm) (u : Ty) → InUniverse p Q → TypeWellFormed t → FieldTypeIs p Q f t u → TypeThere (site_with Q f []) u
  of_field Q f t u i w g = of_role p deep role.Field (site_with Q f []) tt (no_variable Q f i) (mask_names p) t u w g

  pub of_value : (at : Site) (t : TypeTerm) (u : Ty) → SiteFits p at → TypeWellFormed t → TypeIs p at t u → TypeThere at u
  of_value at t u ok w g = normal_there p at ok g.given u (of_role p deep role.Value at tt ok (mask_names p) t g.given w g.resolved) g.normal

  of_view : (r : Role) (at : Site) (t : ViewTerm) (u : Ty) → IsTypeRole r → SiteFits p at → HeadNamed t.term.head
      → ResolveView p (mask_names p) (spot_at at r) (vars_at at) t (Ok u) → TypeThere at u
  of_view r at t u typed ok n g =
      of_class p deep at r typed ok (t.term ∷ []) (omega arith) named u
      (class_case p (spot_at at r) (vars_at at) (mask_names p) (t.term ∷ []) t.masks g.atoms u g.all g.gives) where
        named : (s : Term) → Among (t.term ∷ []) s → HeadNamed s.head
        named _ first = n
        named s (later m) = elim m [ ]

-- the atoms of a type that resolves

type_cases : (p : Program) (sp : Spot) (vs : Vars) (names : List Name) (t : TypeTerm) (u : Ty) (x : Atom) → ResolveType p names sp vs t (Ok u) → Among (atoms_in u) x
    → (s : Term) × (y : ShownAtom) × TermCase p sp vs s y × (x ≡ atom_of y)
type_cases p sp vs names type.Int u x g m = elim (subst (λ (t : Ty). Among (atoms_in t) x) (same_ok u ty.Int g) m) [ ]
type_cases p sp vs names type.Bool u x g m = elim (subst (λ (t : Ty). Among (atoms_in t) x) (same_ok u ty.Bool g) m) [ ]
type_cases p sp vs names (type.Class ts ms) u x g m =
    let c = class_case p sp vs names ts ms g.atoms u g.all g.gives in
    let y = atom_case p sp vs ts u c x m in
    let t = c.each y.0 y.1 in
    (t.term, y.0, t.is, y.2)

view_cases : (p : Program) (sp : Spot) (vs : Vars) (names : List Name) (t : ViewTerm) (u : Ty) (x : Atom) → ResolveView p names sp vs t (Ok u) → Among (atoms_in u) x
    → (s : Term) × (y : ShownAtom) × TermCase p sp vs s y × (x ≡ atom_of y)
view_cases p sp vs names v u x g m =
    let c = class_case p sp vs names (v.term ∷ []) v.masks g.atoms u g.all g.gives in
    let y = atom_case p sp vs (v.term ∷ []) u c x m in
    let t = c.each y.0 y.1 in
    (t.term, y.0, t.is, y.2)

pub written_types : WrittenTypes
written_types p deep = record {
  no_variable = no_variable p deep;
  one_more = one_more p deep;
  of_value = of_value p deep;
  of_field = of_field p deep;
  of_field_bounds = λ Q f t u x i g m. let y = type_cases p (spot_at (site_with Q f []) role.Field) (vars_at (site_with Q f [])) (mask_names p) t u x g m in
      subst (λ (z : Atom). InUniverse p (bound (scope_of (site_with Q f [])) z)) (sym y.3) (role_there p role.Field _ tt y.2.class);
  of_view = of_view p deep;
  of_term = λ r at t x ok n g. subst (λ (z : Atom). Anchored (scope_of at) z.anchor) (sym g.2)
      (anchored_case p at r ok t.head g.0.anchor n (term_case p (spot_at at r) (vars_at at) t g.0 g.1).anchor);
  term_path = λ r at t x q k g e. header_path r at.vars q
      (case_path (spot_at at r) (vars_at at) t.head g.0.anchor q k (term_case p (spot_at at r) (vars_at at) t g.0 g.1).anchor (sym (ap (λ (z : Atom). z.anchor) g.2) ∙ e));
  new_class = λ at t x g. subst (λ (z : Atom). InUniverse p (bound (scope_of at) z)) (sym g.2)
      (kind_there p _ (term_case p (spot_at at role.New) (vars_at at) t g.0 g.1).class);
}

-- ---- `this` alone

not_alone : (b : Bool) → b ≡ true → b ≡ false → ⊥
not_alone true e f = cc
not_alone false e f = cc

alone_path : (r : Role) (vars : List Var) (q : ℕ) → this_alone r ≡ true → Mentioned r vars q → q ≡ 0
alone_path r vars q a (this e) = e
alone_path r vars q a (variable b x m e f c) = absurd (not_alone (this_alone r) a b)

of_this_alone : (a : Anchor) → ((q k : ℕ) → a ≡ Up q k → q ≡ 0) → OfThis a
of_this_alone Root h = tt
of_this_alone (Up q k) h = h q k refl

side_alone : (r : Role) → IsSide r → this_alone r ≡ true
side_alone role.From i = refl
side_alone role.To i = refl
side_alone role.Field i = absurd i
side_alone role.Value i = absurd i
side_alone role.View i = absurd i
side_alone role.New i = absurd i
side_alone role.Super i = absurd i

pub this_is_alone : ThisAlone
this_is_alone p = record {
  in_field = λ Q f t u x g m. let y = type_cases p (spot_at (site_with Q f []) role.Field) (vars_at (site_with Q f [])) (mask_names p) t u x g m in
      of_this_alone x.anchor (λ q k e. alone_path role.Field [] q refl (case_path _ _ y.0.head y.1.anchor q k y.2.anchor (sym (ap (λ (z : Atom). z.anchor) y.3) ∙ e)));
  in_constraint = λ r at t u x i g m. let y = view_cases p (spot_at at r) (vars_at at) (mask_names p) t u x g m in
      of_this_alone x.anchor (λ q k e. alone_path r at.vars q (side_alone r i) (case_path _ _ y.0.head y.1.anchor q k y.2.anchor (sym (ap (λ (z : Atom). z.anchor) y.3) ∙ e)));
}

-- ---- targets

long_family : (P : Path) → 0 < length P → (Y : Name) × (family_of P ≡ Some Y)
long_family [] l = absurd (omega (arith, l))
long_family (X ∷ []) l = (X, refl)
long_family (C ∷ (D ∷ P)) l = long_family (D ∷ P) (omega arith)

-- what suits such a role has a name where its anchor is Root
fixed_long : (y : ShownAtom) (a : Anchor) → y.anchor ≡ a → is_fixed a (has_exact y) ≡ true → a ≡ Root → 0 < length y.exact
fixed_long y Root e s i = ltb-true 0 (length y.exact) s
fixed_long y (Up q k) e s i = absurd (no q k i) where
  no : (q k : ℕ) → Up q k ≡ Root → ⊥
  no q k i = cc

target_there : (x : Atom) (y : ShownAtom) → x ≡ atom_of y → x.anchor ≡ Root → is_fixed y.anchor (has_exact y) ≡ true → (Y : Name) × (target_family x ≡ Some Y)
target_there x y e r s =
    let i : y.anchor ≡ Root = sym (ap (λ (z : Atom). z.anchor) e) ∙ r in
    let l = fixed_long y y.anchor refl s i in
    let n : length x.exact ≡ length y.exact = ap (λ (z : Atom). length z.exact) e ∙ length-reverse y.exact in
    long_family (atom_at (view_at no_views) x)
    (omega (arith, l, n, length-append x.names (x.exact ++ anchor_at (view_at no_views) x.anchor), length-append x.exact (anchor_at (view_at no_views) x.anchor)))

pub targets_have_families : TargetsHaveFamilies
targets_have_families p at t u x = record {
  of_view = λ g m r. let y = view_cases p (spot_at at role.View) (vars_at at) (mask_names p) t u x g m in target_there x y.1 y.3 r y.2.suits;
  of_side = λ g m r. let y = view_cases p (spot_at at role.To) (vars_at at) (mask_names p) t u x g m in target_there x y.1 y.3 r y.2.suits;
}

-- ---- whatever the program

given_written : (p : Program) (sp : Spot) (vs : Vars) (names : List Name) (t : TypeTerm) (u : Ty) → ResolveType p names sp vs t (Ok u) → IsWritten u
given_written p sp vs names type.Int u g = subst IsWritten (sym (same_ok u ty.Int g)) tt
given_written p sp vs names type.Bool u g = subst IsWritten (sym (same_ok u ty.Bool g)) tt
given_written p sp vs names (type.Class ts ms) u g = subst IsWritten (sym (class_case p sp vs names ts ms g.atoms u g.all g.gives).given.is) tt

value_paths : (p : Program) (at : Site) (t : TypeTerm) (u : Ty) → ((v : Var) → Among at.vars v → HeaderPaths at.vars v.ty) → TypeIs p at t u → HeaderPaths at.vars u
value_paths p at t u own g x q k m e =
    let o = normal_from (scope_of at) g.given u g.normal x m in
    let c = type_cases p (spot_at at role.Value) (vars_at at) (mask_names p) t g.given o.0 g.resolved o.1 in
    let i : x.anchor ≡ (normal (scope_of at) o.0).anchor = ap (λ (z : Atom). z.anchor) (o.2 ∙ ap (normal (scope_of at)) (moved_same o.0)) in
    normal_path (HeaderPath at.vars) (scope_of at) (scope_paths at own) o.0
    (λ r j h. header_path role.Value at.vars r (case_path _ _ c.0.head c.1.anchor r j c.2.anchor (sym (ap (λ (z : Atom). z.anchor) c.3) ∙ h))) q k (sym i ∙ e)

pub written_kinds : WrittenKinds
written_kinds p = record {
  of_value = λ at t u g. written_kept (scope_of at) g.given u (given_written p (spot_at at role.Value) (vars_at at) (mask_names p) t g.given g.resolved) g.normal;
  of_field = λ Q f t u g. given_written p (spot_at (site_with Q f []) role.Field) (vars_at (site_with Q f [])) (mask_names p) t u g;
  paths = value_paths p;
}
