-- A body that begins stands in its scope.
use Rattle.std.proofs.Common.{◌≡◌, ◌<◌, ℕ, List, [], ◌∷◌, ◌++◌, length, map, Option, Some, None, Bool, true, false, refl, sym, ap, ◌∙◌, subst, ◌⊎◌, inl, inr, eq-eqb, eqb-true, append_assoc}
use Rattle.std.specs.Prelude.{IsSome, reverse, drop, cond, nat_eq, nat_lt}
use Rattle.std.specs.Option.{option_map}
use Rattle.std.proofs.lemmas.List.{append-nil, map-append, reverse-append, reverse-reverse}
use Rattle.jn_base.specs.declared.tree.Program.{Program}
use Rattle.jn_base.specs.declared.names.Var.{Var}
use Rattle.jn_base.specs.declared.names.Role.TheVariants as role
use Rattle.jn_base.specs.Paths.{Path}
use Rattle.jn_base.specs.Supers.{Sup}
use Rattle.jn_base.specs.Universe.{InUniverse}
use Rattle.jn_base.specs.Atoms.{atom_of, shown_atom, Among, first, later}
use Rattle.jn_base.specs.Scopes.{Bind, Scope, Binds, this_atom, this_bind}
use Rattle.jn_base.specs.Fits.{BindsFit}
use Rattle.jn_base.specs.Resolve.{class_of, var_bind}
use Rattle.jn_sem.specs.Sets.{Views, Seen, view_at, no_views, InType}
use Rattle.jn_sem.specs.Terms.{spot_at}
use Rattle.jn_sem.specs.State.{Heap, Frame, Variable, declared_vars, frame_views, view_of_var, view_in, has_null_path, IsIn}
use Rattle.jn_sem.specs.Does.{Body}
use Rattle.jn_laws.specs.LawsOfWritten.{scope_of}
use Rattle.jn_laws.specs.LawsOfViews.{AgreeOn}
use Rattle.jn_laws.specs.Reading.{IsReal}
use Rattle.jn_laws.proofs.Terms.{reverse_among}
use Rattle.jn_laws.proofs.ByViews.{fits_agree, value_same}
use Rattle.jn_rules.specs.Headers.{site_in}
use Rattle.jn_rules.specs.Exprs.{bind}
use Rattle.jn_sound.specs.Sound.{InScope, ThisFits, all_views}
use Rattle.jn_sound.proofs.Locals.{local_scope}
use Rattle.jn_sound.proofs.Calls.{not_null_at}
use Rattle.jn_sound.proofs.Known.{all_small}

module _ (b : Body) where
  abbrev S : List Var → Scope
  S vs = scope_of (site_in b vs)

  abbrev C : Path
  C = class_of (spot_at (site_in b []) role.Value)

  scope_more : (vs : List Var) (x : Var) → S (vs ++ x ∷ []) ≡ var_bind x ∷ S vs
  scope_more vs x =
      ap (λ (bs : List Bind). reverse (this_bind C ∷ bs)) (map-append var_bind vs (x ∷ [])) ∙ reverse-append
      (this_bind C ∷ map var_bind vs) (var_bind x ∷ [])

  -- what fits with all variables fits with the first ones
  binds_before : (vs ws : List Var) → BindsFit (S (vs ++ ws)) → BindsFit (S vs)
  binds_before vs [] f = subst (λ (l : List Var). BindsFit (S l)) (append-nil vs) f
  binds_before vs (x ∷ ws) f =
      (subst BindsFit (scope_more vs x)
      (binds_before (vs ++ x ∷ []) ws
      (subst (λ (l : List Var). BindsFit (S l)) (sym (append_assoc vs (x ∷ []) ws)) f))).0

  binds_at : (vs ws : List Var) (x : Var) → BindsFit (S (vs ++ x ∷ ws)) → BindsFit (var_bind x ∷ S vs)
  binds_at vs ws x f =
      subst BindsFit (scope_more vs x)
      (binds_before (vs ++ x ∷ []) ws
      (subst (λ (l : List Var). BindsFit (S l)) (sym (append_assoc vs (x ∷ []) ws)) f))

  -- a bind there is that of `this`, or of a variable
  pub bind_of : (vs : List Var) (c : Bind) → Among (S vs) c
      → (c ≡ this_bind C) ⊎ ((x : Var) × Among vs x × (c ≡ var_bind x))
  bind_of vs c m = at (reverse_among (this_bind C ∷ map var_bind vs) c m) where
    of_var : (xs : List Var) → Among (map var_bind xs) c → (x : Var) × Among xs x × (c ≡ var_bind x)
    of_var [] n = elim n [ ]
    of_var (x ∷ xs) n = one c n refl (of_var xs) where
      one : (d : Bind) → Among (var_bind x ∷ map var_bind xs) d → d ≡ c
          → (Among (map var_bind xs) c → (y : Var) × Among xs y × (c ≡ var_bind y))
          → (y : Var) × Among (x ∷ xs) y × (c ≡ var_bind y)
      one _ first e again = (x, first, sym e)
      one d (later n) e again = let r = again (subst (Among (map var_bind xs)) e n) in (r.0, later r.1, r.2)

    at_this : (d : Bind) → Among (this_bind C ∷ map var_bind vs) d → d ≡ c
        → (c ≡ this_bind C) ⊎ ((x : Var) × Among vs x × (c ≡ var_bind x))
    at_this _ first e = inl (sym e)
    at_this d (later n) e = inr (of_var vs (subst (Among (map var_bind vs)) e n))

    at : Among (this_bind C ∷ map var_bind vs) c → (c ≡ this_bind C) ⊎ ((x : Var) × Among vs x × (c ≡ var_bind x))
    at n = at_this c n refl

prefix_view : (xs rest : List Variable) (y : Variable) → Among xs y
    → view_of_var (xs ++ rest) y.var.path ≡ view_of_var xs y.var.path
prefix_view _ rest y (later {y = x} {xs = xs} a) =
    ap (λ (o : Option Path). cond (nat_eq y.var.path x.var.path) (view_in x.value) o) (prefix_view xs rest y a)
prefix_view _ rest y (first {xs = xs}) =
    subst (λ (c : Bool). cond c (view_in y.value) (view_of_var (xs ++ rest) y.var.path) ≡ cond c (view_in y.value)
    (view_of_var xs y.var.path)) (sym (eq-eqb y.var.path y.var.path refl)) refl

variable_of_var : (xs : List Variable) (v : Var) → Among (declared_vars xs) v
    → (y : Variable) × Among xs y × (y.var ≡ v)
variable_of_var [] v m = elim m [ ]
variable_of_var (x ∷ xs) v m = at v m refl (variable_of_var xs v) where
  at : (u : Var) → Among (x.var ∷ declared_vars xs) u → u ≡ v
      → (Among (declared_vars xs) v → (y : Variable) × Among xs y × (y.var ≡ v)) → (y : Variable) × Among (x ∷ xs) y ×
      (y.var ≡ v)
  at _ first e again = (x, first, e)
  at u (later n) e again = let r = again (subst (Among (declared_vars xs)) e n) in (r.0, later r.1, r.2)

among_middle : (xs ys : List Variable) (y : Variable) → Among (xs ++ y ∷ ys) y
among_middle [] ys y = first
among_middle (x ∷ xs) ys y = later (among_middle xs ys y)

among_first : (xs ys : List Variable) (y : Variable) → Among xs y → Among (xs ++ ys) y
among_first _ ys _ first = first
among_first _ ys y (later a) = later (among_first _ ys y a)

-- what is known of all the variables of a body that begins
pub record Arguments (p : Program) (h : Heap) (g : Frame) (all : List Variable) : Type 0 where
  pub binds : BindsFit (scope_of (site_in (record { class = g.class; method = g.method }) (declared_vars all)))
  pub small : (y : Variable) → Among all y → y.var.path < 256
  pub positive : (y : Variable) → Among all y → y.var.path ≡ 0 → ⊥
  pub no_null : has_null_path all ≡ false
  pub real : (y : Variable) → Among all y → IsReal p h y.value
  pub typed : (y : Variable) → Among all y → IsIn p (frame_views (record g { vars = all })) h y.var.ty y.value

module _ {p : Program} {h : Heap} {g : Frame} (all : List Variable) (k : Arguments p h g all) where
  abbrev B : Body
  B = record { class = g.class; method = g.method }

  abbrev T : List Variable → Scope
  T xs = scope_of (site_in (record { class = g.class; method = g.method }) (declared_vars xs))

  -- the variables so far give their views to what fits their scope
  agree : (xs rest : List Variable) → all ≡ xs ++ rest
      → AgreeOn (T xs) (frame_views (record g { vars = all })) (all_views (record g { vars = xs }) no_views)
  agree xs rest e = record { each = λ q m. at q (bind_of B (declared_vars xs) m.bind m.among) m.is } where
    V : ℕ → Option Path
    V = frame_views (record g { vars = all })

    W : ℕ → Option Path
    W = all_views (record g { vars = xs }) no_views

    at_var : (y : Variable) → Among xs y → V y.var.path ≡ W y.var.path
    at_var y a =
        ap (λ (l : List Variable). cond (nat_eq y.var.path 0) (view_in g.this) (view_of_var l y.var.path)) e
        ∙ ap (λ (o : Option Path). cond (nat_eq y.var.path 0) (view_in g.this) o) (prefix_view xs rest y a)
        ∙ sym (all_small (record g { vars = xs }) no_views y.var.path
        (k.small y (subst (λ (l : List Variable). Among l y) (sym e) (among_first xs rest y a))))

    at : (q : ℕ) {c : Bind}
        → (c ≡ this_bind (C B)) ⊎ ((x : Var) × Among (declared_vars xs) x × (c ≡ var_bind x)) → c.path ≡ q → V q ≡ W q
    at q (inl i) j = subst (λ (r : ℕ). V r ≡ W r) (ap (λ (d : Bind). d.path) (sym i) ∙ j) refl
    at q (inr i) j =
        let y = variable_of_var xs i.0 i.1 in
        subst (λ (r : ℕ). V r ≡ W r) (ap (λ (u : Var). u.path) y.2 ∙ ap (λ (d : Bind). d.path) (sym i.2) ∙ j)
        (at_var y.0 y.1)

  pub grow : (xs rest : List Variable) → all ≡ xs ++ rest
      → InScope p h (record g { vars = xs }) no_views (declared_vars xs) (T xs)
      → InScope p h (record g { vars = all }) no_views (declared_vars all) (T all)
  grow xs [] e i =
      subst (λ (l : List Variable). InScope p h (record g { vars = l }) no_views (declared_vars l) (T l))
      (sym (e ∙ append-nil xs)) i
  grow xs (y ∷ rest) e i = grow (xs ++ y ∷ []) rest (e ∙ sym (append_assoc xs (y ∷ []) rest)) next where
    mine : Among all y
    mine = subst (λ (l : List Variable). Among l y) (sym e) (among_middle xs rest y)

    here : BindsFit (var_bind y.var ∷ T xs)
    here = binds_at B (declared_vars xs) (declared_vars rest) y.var
        (subst (λ (l : List Var). BindsFit (scope_of (site_in B l)))
        (ap declared_vars e ∙ map-append (λ (x : Variable). x.var) xs (y ∷ rest)) k.binds)

    in_type : IsIn p (all_views (record g { vars = xs }) no_views) h y.var.ty y.value
    in_type =
        value_same p _ _ h y.var.ty y.value (fits_agree (T xs) _ _ y.var.ty (agree xs (y ∷ rest) e) here.2)
        (k.typed y mine)

    added : InScope p h (record g { vars = xs ++ y ∷ [] }) no_views (declared_vars xs ++ y.var ∷ [])
        (bind y.var.path y.var.ty ∷ T xs)
    added =
        local_scope y i (k.small y mine) here.1 (k.positive y mine) here.2 in_type (k.real y mine)
        (not_null_at all y k.no_null mine)

    next : InScope p h (record g { vars = xs ++ y ∷ [] }) no_views (declared_vars (xs ++ y ∷ [])) (T (xs ++ y ∷ []))
    next =
        subst (λ (l : List Var). InScope p h (record g { vars = xs ++ y ∷ [] }) no_views l (scope_of (site_in B l)))
        (sym (map-append (λ (x : Variable). x.var) xs (y ∷ [])))
        (subst (λ (s : Scope). InScope p h (record g { vars = xs ++ y ∷ [] }) no_views
        (declared_vars xs ++ y.var ∷ []) s) (sym (scope_more B (declared_vars xs) y.var)) added)

  -- with `this` alone
  pub alone : (t : ThisFits p h (record g { vars = [] })) → InUniverse p t.view
      → drop (length g.class) t.view ≡ [] → InScope p h (record g { vars = [] }) no_views [] (T [])
  alone t u long = record {
    declared = refl;
    binds = binds_before B [] (declared_vars all) k.binds;
    respects =
        record {
          bound = λ q n. bound q (nat_eq q 0) refl n;
          universe = λ q n. universe q (nat_eq q 0) refl n;
          holds =
              holds;
        };
    values = λ x c m n e. elim m [ ];
    bound = λ x m. elim m [ ];
    real = λ x m. elim m [ ];
    seen = λ x m. elim m [ ];
    small = λ x m. elim m [ ];
    no_null = refl;
    own = tt;
    this = t;
  } where
    W : Views
    W = all_views (record g { vars = [] }) no_views

    view : W 0 ≡ Some t.view
    view = ap view_in t.is

    not_seen : IsSome (option_map (λ (z : Path). z) None) → ⊥
    not_seen e = cc

    is_this : (q : ℕ) (z : Bool) → nat_eq q 0 ≡ z → Seen (all_views (record g { vars = [] }) no_views) q → q ≡ 0
    is_this q true e n = eqb-true q 0 e
    is_this q false e n =
        absurd (none (nat_lt q 256) (subst
        (λ (c : Bool). IsSome (cond (nat_lt q 256) (cond c (view_in g.this) None) None)) e n)) where
          none : (c : Bool) → IsSome (cond c (cond false (view_in g.this) None) None) → ⊥
          none true m = not_seen m
          none false m = not_seen m

    bound : (q : ℕ) (z : Bool) → nat_eq q 0 ≡ z → Seen (all_views (record g { vars = [] }) no_views) q → Binds (T []) q
    bound q z e n =
        subst (Binds (T [])) (sym (is_this q z e n)) (record { bind = this_bind (C B); among = first; is = refl })

    universe : (q : ℕ) (z : Bool) → nat_eq q 0 ≡ z → Seen (all_views (record g { vars = [] }) no_views) q
        → InUniverse p (view_at (all_views (record g { vars = [] }) no_views) q)
    universe q z e n =
        subst (λ (r : ℕ). InUniverse p (view_at W r)) (sym (is_this q z e n))
        (subst (λ (o : Option Path). InUniverse p (Rattle.std.specs.Prelude.unwrap_or o [])) (sym view) u)

    same_class : C B ≡ g.class
    same_class = reverse-reverse g.class

    names : (atom_of (shown_atom (this_atom (C B)))).names ≡ g.class
    names = reverse-reverse (C B) ∙ same_class

    in_this : InType p W (this_bind (C B)).ty t.view
    in_this _ first = record {
      seen = tt;
      inside = record {
        exact = subst (λ (l : Path). drop (length l) t.view ≡ []) (sym names) long;
        super = subst (λ (l : Path). Sup p t.view l) (sym (append-nil _ ∙ names)) t.super;
      };
    }
    in_this x (later m) = elim m [ ]

    holds : (c : Bind) → Among (T []) c → Seen (all_views (record g { vars = [] }) no_views) c.path
        → InType p (all_views (record g { vars = [] }) no_views) c.ty
        (view_at (all_views (record g { vars = [] }) no_views) c.path)
    holds c m n = at (bind_of B [] c m) where
      at : (c ≡ this_bind (C B)) ⊎ ((x : Var) × Among [] x × (c ≡ var_bind x)) → InType p W c.ty (view_at W c.path)
      at (inl e) =
          subst (λ (d : Bind). InType p W d.ty (view_at W d.path)) (sym e)
          (subst (λ (o : Option Path). InType p W (this_bind (C B)).ty (Rattle.std.specs.Prelude.unwrap_or o []))
          (sym view) in_this)
      at (inr e) = elim e.1 [ ]
