-- The rules by which what is known becomes another thing, and nothing acts.
use Rattle.std.proofs.Common.{◌≡◌, ◌≤◌, ◌<◌, ℕ, zero, suc, List, [], ◌∷◌, length, Option, Some, None, Bool, true, false, refl, sym, ap, ◌∙◌, subst, arith, ◌⊎◌, inl, inr, eqb-true, eq-eqb}
use Rattle.std.specs.Prelude.{take, cond, nat_eq, nat_lt, ◌||◌, IsSome, unwrap_or}
use Rattle.std.specs.Option.{option_map}
use Rattle.std.proofs.lemmas.Bool.{le-ltb, lt-ltb}
use Rattle.std.proofs.lemmas.List.{take-take}
use Rattle.jn_reach.specs.Chain.{here}
use Rattle.jn_base.specs.Resolve.{is_class}
use Rattle.jn_sem.specs.Below.{classes}
use Rattle.jn_rules.specs.Questions.{masks_of}
use Rattle.jn_base.specs.declared.tree.Program.{Program}
use Rattle.jn_base.specs.declared.types.Ty.{Ty}
use Rattle.jn_base.specs.declared.types.Ty.TheVariants as ty
use Rattle.jn_base.specs.declared.names.Var.{Var}
use Rattle.jn_base.specs.Paths.{Path}
use Rattle.jn_base.specs.Universe.{InUniverse}
use Rattle.jn_base.specs.Atoms.{Atom, atoms_in, Among, first, later}
use Rattle.jn_base.specs.Scopes.{Bind, Scope, Binds}
use Rattle.jn_base.specs.Fits.{BindsFit, TypeFits}
use Rattle.jn_base.specs.ResolveTypes.{mask_names}
use Rattle.jn_sem.specs.Sets.{Views, Seen, view_at, no_views, InType, Respects}
use Rattle.jn_sem.specs.Values.{Value, Number, Truth, Null, Reference, number, truth, null, no_object, object}
use Rattle.jn_sem.specs.Below.{Below}
use Rattle.jn_sem.specs.State.{Heap, Variable, Frame, frame_views, view_of_var, declared_vars, view_in, IsIn, HasValue, has_null_path, is_null_path}
use Rattle.jn_sem.proofs.TypeSets.{values_below}
use Rattle.jn_sem.proofs.Under.{type_later, fits_whole}
use Rattle.jn_rules.specs.Exprs.{bind}
use Rattle.jn_sound.specs.Takes.{Opd, opd, OwnPaths}
use Rattle.jn_sound.specs.KnownScopes.{Covers}
use Rattle.jn_sound.specs.Fit.{Loosened, Narrowed, none, dropped, kept}
use Rattle.jn_sound.specs.Sound.{InScope, OperandFits, OperandsFit, none as no_opds, one, cut, all_views}
use Rattle.jn_laws.specs.LawsOfViews.{AgreeOn}
use Rattle.jn_laws.proofs.ByViews.{type_same, value_same, fits_agree, holds_same, view_same}
use Rattle.jn_sound.specs.Sound.{Stands}
use Rattle.jn_sound.proofs.Stands.{operand_same}
use Rattle.jn_base.specs.Atoms.{MasksWithin}
use Rattle.jn_rules.specs.Headers.{Header}
use Rattle.jn_laws.specs.Reading.{IsReal}

-- ---- an operand gets a fresh path

-- the view of one more path
abbrev pub also : ℕ → Option Path → Views → Views
also q V w r = cond (nat_eq r q) V (w r)

-- views of the frame, with one more
pub at_new : (f : Frame) (q : ℕ) (V : Option Path) (w : Views) → 256 ≤ q → all_views f (also q V w) q ≡ V
at_new f q V w l =
    ap (λ (b : Bool). cond b (frame_views f q) (cond (nat_eq q q) V (w q))) (le-ltb q 256 l) ∙ ap
    (λ (b : Bool). cond b V (w q)) (eq-eqb q q refl)

pub at_other : (f : Frame) (q r : ℕ) (V : Option Path) (w : Views) → (r ≡ q → ⊥)
    → all_views f (also q V w) r ≡ all_views f w r
at_other f q r V w other =
    ap (λ (x : Option Path). cond (nat_lt r 256) (frame_views f r) x) (by (nat_eq r q) refl) where
      by : (b : Bool) → nat_eq r q ≡ b → cond b V (w r) ≡ w r
      by true e = absurd (other (eqb-true r q e))
      by false e = refl

agree_new : (f : Frame) (s : Scope) (q : ℕ) (V : Option Path) (w : Views) → (Binds s q → ⊥)
    → AgreeOn s (all_views f w) (all_views f (also q V w))
agree_new f s q V w free = record { each = λ r b. sym (at_other f q r V w (λ e. free (subst (Binds s) e b))) }

-- the class of a value in a type
pub view_typed : (p : Program) (h : Heap) (v : Views) (t : Ty) (x : Value) → IsIn p v h t x → (V : Path)
    → view_in x ≡ Some V → InType p v t V
view_typed p h v _ _ number V e = absurd (no e) where
  no : None ≡ Some V → ⊥
  no e = cc
view_typed p h v _ _ truth V e = absurd (no e) where
  no : None ≡ Some V → ⊥
  no e = cc
view_typed p h v _ _ null V e = absurd (no e) where
  no : None ≡ Some V → ⊥
  no e = cc
view_typed p h v _ _ no_object V e = absurd (no e) where
  no : None ≡ Some V → ⊥
  no e = cc
view_typed p h v _ _ (object {xs = xs} {m = m} {V = U} i f) V e = subst (InType p v (ty.Class xs m)) (same e) i where
  same : Some U ≡ Some V → U ≡ V
  same e = cc

pub view_real : (p : Program) (h : Heap) (x : Value) → IsReal p h x → (V : Path) → view_in x ≡ Some V → InUniverse p V
view_real p h (Number z) r V e = absurd (no e) where
  no : None ≡ Some V → ⊥
  no e = cc
view_real p h (Truth b) r V e = absurd (no e) where
  no : None ≡ Some V → ⊥
  no e = cc
view_real p h Null r V e = absurd (no e) where
  no : None ≡ Some V → ⊥
  no e = cc
view_real p h (Reference o U) r V e = subst (InUniverse p) (same e) r.related.other.universe where
  same : Some U ≡ Some V → U ≡ V
  same e = cc

pub some_view : (o : Option Path) → IsSome o → o ≡ Some (unwrap_or o [])
some_view None s = absurd (no s) where
  no : IsSome (option_map (λ (z : Path). z) None) → ⊥
  no s = cc
some_view (Some V) s = refl

-- views that respect a scope respect it with one more bind, where its path has a view in its type
pub respects_new : {p : Program} {s : Scope} (v w : Views) (q : ℕ) (u : Ty) → BindsFit s → AgreeOn s v w
    → Respects p v s → TypeFits s u
    → ((r : ℕ) → (r ≡ q → ⊥) → Seen w r → Seen v r) → ((r : ℕ) → (r ≡ q) ⊎ (r ≡ q → ⊥)) → (Binds s q → ⊥)
    → ((V : Path) → w q ≡ Some V → InType p v u V × InUniverse p V) → Respects p w (bind q u ∷ s)
respects_new {p} {s} v w q u f g r fits back whether free new =
    record { bound = λ x n. bound x n (whether x); universe = λ x n. universe x n (whether x); holds = holds } where
      with_new : (x : ℕ) → Binds s x → Binds (bind q u ∷ s) x
      with_new x b = record { bind = b.bind; among = later b.among; is = b.is }

      bound : (x : ℕ) → Seen w x → (x ≡ q) ⊎ (x ≡ q → ⊥) → Binds (bind q u ∷ s) x
      bound x n (inl e) = record { bind = bind q u; among = first; is = sym e }
      bound x n (inr o) = with_new x (r.bound x (back x o n))

      universe : (x : ℕ) → Seen w x → (x ≡ q) ⊎ (x ≡ q → ⊥) → InUniverse p (view_at w x)
      universe x n (inl e) = (new (view_at w x) (subst (λ (y : ℕ). w y ≡ Some (view_at w x)) e (some_view (w x) n))).1
      universe x n (inr o) =
          let seen : Seen v x = back x o n in
          subst (InUniverse p) (view_same v w x (g.each x (r.bound x seen))) (r.universe x seen)

      holds : (b : Bind) → Among (bind q u ∷ s) b → Seen w b.path → InType p w b.ty (view_at w b.path)
      holds _ first n =
          type_same p v w u (view_at w q) (fits_agree s v w u g fits) (new (view_at w q) (some_view (w q) n)).0
      holds b (later a) n = holds_same v w f g r b a n

pub either_path : (q r : ℕ) → (r ≡ q) ⊎ (r ≡ q → ⊥)
either_path q r = by (nat_eq r q) refl where
  by : (b : Bool) → nat_eq r q ≡ b → (r ≡ q) ⊎ (r ≡ q → ⊥)
  by true e = inl (eqb-true r q e)
  by false e = inr (λ i. wrong (eq-eqb r q i)) where
    wrong : nat_eq r q ≡ true → ⊥
    wrong i = cc

-- WHAT IS KNOWN: `named`
fresh_on_top : {p : Program} {h : Heap} {s : Scope} (f : Frame) (w : Views) (q : ℕ) (u : Ty) (V : Option Path)
    → BindsFit (bind q u ∷ s) → (more : List Opd) (vals : List Value)
    → OperandsFit p f.vars h s (all_views f w) more vals
    → OperandsFit p f.vars h (bind q u ∷ s) (all_views f (also q V w)) more vals
fresh_on_top f w q u V b _ vals no_opds = no_opds
fresh_on_top {p} {h} {s} f w q u V b _ _ (one {o = o} {x = y} i m) =
    one (operand_same (all_views f w) (all_views f (also q V w)) o y (agree_new f s q V w b.1)
    (λ t n. type_later b n) (λ r n. record { bind = n.bind; among = later n.among; is = n.is }) (λ z m n. m) i)
    (fresh_on_top f w q u V b _ _ m)

more_scope : {p : Program} {h : Heap} {g : Frame} {vs : List Var} {s : Scope} {w : Views} (u : Ty) (q : ℕ)
    (o : Option Path) → 256 ≤ q → BindsFit (bind q u ∷ s)
    → ((V : Path) → o ≡ Some V → InType p (all_views g w) u V × InUniverse p V) → InScope p h g w vs s
    → InScope p h g (also q o w) vs (bind q u ∷ s)
more_scope {p} {h} {g} {vs} {s} {w} u q o far b new n = record {
  declared = n.declared;
  binds = b;
  respects =
      respects_new v v' q u n.binds agree n.respects b.2
      (λ y a. subst (λ (z : Option Path). IsSome z) (at_other g q y o w a)) (either_path q) b.1
      (λ V e. new V (sym (at_new g q o w far) ∙ e));
  values = values;
  bound = λ y a. let k = n.bound y a in (k.0, later k.1, k.2, k.3, k.4);
  real = n.real;
  seen = n.seen;
  small = n.small;
  no_null = n.no_null;
  own = n.own;
  this = n.this;
} where
  v : Views
  v = all_views g w

  v' : Views
  v' = all_views g (also q o w)

  agree : AgreeOn s v v'
  agree = agree_new g s q o w b.1

  values : (y : Variable) (c : Bind) → Among g.vars y → Among (bind q u ∷ s) c → c.path ≡ y.var.path
      → IsIn p v' h c.ty y.value
  values y _ a first e = absurd (apart (n.small y a) e) where
    apart : y.var.path < 256 → q ≡ y.var.path → ⊥
    apart l e = omega (arith, far, l, e)
  values y c a (later m) e =
      value_same p v v' h c.ty y.value (fits_agree s v v' c.ty agree (fits_whole m n.binds)) (n.values y c a m e)

named_scope : {p : Program} {h : Heap} {g : Frame} {vs : List Var} {s : Scope} {w : Views} (u : Ty) (q : ℕ)
    (x : Value) → 256 ≤ q → BindsFit (bind q u ∷ s)
    → IsIn p (all_views g w) h u x → IsReal p h x → InScope p h g w vs s → InScope p h g (also q (view_in x) w) vs
    (bind q u ∷ s)
named_scope {p} {h} {g} {w = w} u q x far b i r n =
    more_scope u q (view_in x) far b (λ V e. (view_typed p h (all_views g w) u x i V e, view_real p h x r V e)) n

pub record Named (p : Program) (h : Heap) (f : Frame) (x : Header) (vs : List Var) (s : Scope)
    (ops : List Opd) : Type 0 where
  pub fresh : Views
  pub stands : Stands p h f x vs s ops fresh

pub stands_named : {p : Program} {h : Heap} {f : Frame} {x : Header} {vs : List Var} {s : Scope} {ops : List Opd}
    {w : Views} (t u : Ty) (q : ℕ)
    → 256 ≤ q → (Binds s q → ⊥) → TypeFits s u → Below p s t u
    → Stands p h f x vs s (opd t None ∷ ops) w → Named p h f x vs (bind q u ∷ s) (opd t (Some q) ∷ ops)
stands_named {p} {h} {f} {x} {vs} {s} {ops} {w} t u q far free fits below a = at f.vals a.operands refl where
  g : Frame
  g = cut (length vs) f

  b : BindsFit (bind q u ∷ s)
  b = (a.in_scope.binds, free, fits)

  at : (vals : List Value) → OperandsFit p (take (length vs) f.vars) h s (all_views g w) (opd t None ∷ ops) vals
      → f.vals ≡ vals
      → Named p h f x vs (bind q u ∷ s) (opd t (Some q) ∷ ops)
  at _ (one {x = y} {vs = vals} i m) e = record {
    fresh = also q (view_in y) w;
    stands = record {
      is_header = a.is_header;
      params = a.params;
      all_params = a.all_params;
      in_scope =
          named_scope u q y far b (values_below a.in_scope.binds a.in_scope.respects (mask_names p)
          (HasValue p h) t u y below i.is_in) i.real a.in_scope;
      operands =
          subst (OperandsFit p (take (length vs) f.vars) h (bind q u ∷ s) (all_views g (also q (view_in y) w))
          (opd t (Some q) ∷ ops)) (sym e)
          (one top (fresh_on_top g w q u (view_in y) b ops vals m));
    };
  } where
    top : OperandFits p (take (length vs) f.vars) h (bind q u ∷ s) (all_views g (also q (view_in y) w))
        (opd t (Some q)) y
    top = record {
      fits = type_later b i.fits;
      bound = λ r k. record { bind = bind q u; among = first; is = same r k };
      is_in =
          value_same p (all_views g w) (all_views g (also q (view_in y) w)) h t y
          (fits_agree s _ _ t (agree_new g s q (view_in y) w free) i.fits) i.is_in;
      real = i.real;
      path =
          λ r k. subst (λ (z : ℕ). all_views g (also q (view_in y) w) z ≡ view_in y) (same r k)
          (at_new g q (view_in y) w far);
      held = λ z k e. absurd (apart z.var.path (a.in_scope.small z k) (same z.var.path e));
    } where
      apart : (n : ℕ) → n < 256 → q ≡ n → ⊥
      apart n l e = omega (arith, far, l, e)

      same : (r : ℕ) → Some q ≡ Some r → q ≡ r
      same r k = cc

-- a fresh path that no value has
pub stands_unseen : {p : Program} {h : Heap} {f : Frame} {x : Header} {vs : List Var} {s : Scope} {ops : List Opd}
    {w : Views} (u : Ty) (q : ℕ) → 256 ≤ q → (Binds s q → ⊥) → TypeFits s u → Stands p h f x vs s ops w
    → Stands p h f x vs (bind q u ∷ s) ops (also q None w)
stands_unseen {f = f} {vs = vs} {s = s} {ops = ops} {w = w} u q far free fits a =
    let b : BindsFit (bind q u ∷ s) = (a.in_scope.binds, free, fits) in
    record {
      is_header = a.is_header;
      params = a.params;
      all_params = a.all_params;
      in_scope = more_scope u q None far b (λ V e. absurd (no V e)) a.in_scope;
      operands = fresh_on_top (cut (length vs) f) w q u None b ops f.vals a.operands;
    } where
      no : (V : Path) → None ≡ Some V → ⊥
      no V e = cc

-- ---- a statement or a block ends

-- more masks
loosened_in : {p : Program} {s : Scope} {v : Views} {h : Heap} (b c : Bind) (x : Value) → BindsFit s
    → Respects p v s → Loosened b c → IsIn p v h b.ty x → IsIn p v h c.ty x
loosened_in {p} {s} {v} {h} b c x f r l i = at b.ty c.ty l.atoms l.masks l.kind l.plain i where
  at : (t u : Ty) → atoms_in u ≡ atoms_in t → MasksWithin (masks_of t) (masks_of u) → is_class u ≡ is_class t
      → (is_class t ≡ false → u ≡ t) → IsIn p v h t x → IsIn p v h u x
  at (ty.Class xs m) (ty.Class ys n) e w k same i =
      values_below f r (mask_names p) (HasValue p h) (ty.Class xs m) (ty.Class ys n) x
      (classes (λ y a. record { from = y; among = subst (λ (zs : List Atom). Among zs y) e a; chain = here }) w) i
  at (ty.Class xs m) ty.Int e w k same i = absurd (no k) where
    no : false ≡ true → ⊥
    no k = cc
  at (ty.Class xs m) ty.Bool e w k same i = absurd (no k) where
    no : false ≡ true → ⊥
    no k = cc
  at (ty.Class xs m) ty.Null e w k same i = absurd (no k) where
    no : false ≡ true → ⊥
    no k = cc
  at (ty.Class xs m) ty.Void e w k same i = absurd (no k) where
    no : false ≡ true → ⊥
    no k = cc
  at ty.Int u e w k same i = subst (λ (z : Ty). IsIn p v h z x) (sym (same refl)) i
  at ty.Bool u e w k same i = subst (λ (z : Ty). IsIn p v h z x) (sym (same refl)) i
  at ty.Null u e w k same i = subst (λ (z : Ty). IsIn p v h z x) (sym (same refl)) i
  at ty.Void u e w k same i = subst (λ (z : Ty). IsIn p v h z x) (sym (same refl)) i

-- each bind of the narrower scope is one of the other, with more masks
pub record LoosenedFrom (s : Scope) (c : Bind) : Type 0 where
  pub bind : Bind
  pub among : Among s bind
  pub loosened : Loosened bind c

narrowed_from : (s t : Scope) → Narrowed s t → (c : Bind) → Among t c → LoosenedFrom s c
narrowed_from _ _ none c a = elim a [ ]
narrowed_from _ _ (dropped n) c a =
    let k = narrowed_from _ _ n c a in record { bind = k.bind; among = later k.among; loosened = k.loosened }
narrowed_from _ _ (kept {b = b} l n) _ first = record { bind = b; among = first; loosened = l }
narrowed_from _ _ (kept l n) c (later a) =
    let k = narrowed_from _ _ n c a in record { bind = k.bind; among = later k.among; loosened = k.loosened }

-- the view of a variable that stays
view_prefix : (n : ℕ) (xs : List Variable) (y : Variable) → Among (take n xs) y
    → view_of_var (take n xs) y.var.path ≡ view_of_var xs y.var.path
view_prefix zero xs y a = elim a [ ]
view_prefix (suc n) [] y a = elim a [ ]
view_prefix (suc n) (x ∷ xs) _ first = at (nat_eq x.var.path x.var.path) (eq-eqb x.var.path x.var.path refl) where
  at : (b : Bool) → b ≡ true
      → cond b (view_in x.value) (view_of_var (take n xs) x.var.path) ≡ cond b (view_in x.value)
      (view_of_var xs x.var.path)
  at true e = refl
  at false e = cc
view_prefix (suc n) (x ∷ xs) y (later a) =
    ap (λ (o : Option Path). cond (nat_eq y.var.path x.var.path) (view_in x.value) o) (view_prefix n xs y a)

pub frame_prefix : (n : ℕ) (f : Frame) (y : Variable) → Among (take n f.vars) y
    → frame_views (cut n f) y.var.path ≡ frame_views f y.var.path
frame_prefix n f y a =
    ap (λ (o : Option Path). cond (nat_eq y.var.path 0) (view_in f.this) o) (view_prefix n f.vars y a)

pub among_take : (n : ℕ) (xs : List Variable) (y : Variable) → Among (take n xs) y → Among xs y
among_take zero xs y a = elim a [ ]
among_take (suc n) [] y a = elim a [ ]
among_take (suc n) (x ∷ xs) _ first = first
among_take (suc n) (x ∷ xs) y (later a) = later (among_take n xs y a)

pub take_declared : (n : ℕ) (xs : List Variable) → declared_vars (take n xs) ≡ take n (declared_vars xs)
take_declared zero xs = refl
take_declared (suc n) [] = refl
take_declared (suc n) (x ∷ xs) = ap (λ (l : List Var). x.var ∷ l) (take_declared n xs)

-- the variable of a declaration
pub record VarOf (xs : List Variable) (v : Var) : Type 0 where
  pub variable : Variable
  pub among : Among xs variable
  pub is : variable.var ≡ v

pub var_of : (xs : List Variable) (v : Var) → Among (declared_vars xs) v → VarOf xs v
var_of [] v a = elim a [ ]
var_of (x ∷ xs) _ first = record { variable = x; among = first; is = refl }
var_of (x ∷ xs) v (later a) =
    let k = var_of xs v a in record { variable = k.variable; among = later k.among; is = k.is }

pub declared_among : (xs : List Variable) (y : Variable) → Among xs y → Among (declared_vars xs) y.var
declared_among _ y first = first
declared_among _ y (later a) = later (declared_among _ y a)

seen_var : (xs : List Variable) (q : ℕ) → IsSome (view_of_var xs q) → (y : Variable) × Among xs y × (y.var.path ≡ q)
seen_var [] q n = absurd (no n) where
  no : IsSome (option_map (λ (z : Path). z) None) → ⊥
  no s = cc
seen_var (x ∷ xs) q n = at (nat_eq q x.var.path) refl n (seen_var xs q) where
  at : (b : Bool) → nat_eq q x.var.path ≡ b → IsSome (cond b (view_in x.value) (view_of_var xs q))
      → (IsSome (view_of_var xs q) → (y : Variable) × Among xs y × (y.var.path ≡ q))
      → (y : Variable) × Among (x ∷ xs) y × (y.var.path ≡ q)
  at true e n again = (x, first, sym (eqb-true q x.var.path e))
  at false e n again = let k = again n in (k.0, later k.1, k.2)

not_null_prefix : (n : ℕ) (xs : List Variable) → has_null_path xs ≡ false → has_null_path (take n xs) ≡ false
not_null_prefix zero xs e = refl
not_null_prefix (suc n) [] e = refl
not_null_prefix (suc n) (x ∷ xs) e = at (is_null_path x) e (not_null_prefix n xs) where
  at : (b : Bool) → (b || has_null_path xs) ≡ false
      → (has_null_path xs ≡ false → has_null_path (take n xs) ≡ false) → (b || has_null_path (take n xs)) ≡ false
  at true e again = cc
  at false e again = again e

own_prefix : (n : ℕ) (vs : List Var) → OwnPaths vs → OwnPaths (take n vs)
own_prefix zero vs o = tt
own_prefix (suc n) [] o = tt
own_prefix (suc n) (v ∷ vs) o = (own_prefix n vs o.0, λ u m. o.1 u (among_prefix n vs u m), o.2) where
  among_prefix : (n : ℕ) (us : List Var) (u : Var) → Among (take n us) u → Among us u
  among_prefix zero us u m = elim m [ ]
  among_prefix (suc n) [] u m = elim m [ ]
  among_prefix (suc n) (w ∷ us) _ first = first
  among_prefix (suc n) (w ∷ us) u (later m) = later (among_prefix n us u m)

-- a path has one bind
pub bind_once : (s : Scope) (b c : Bind) → BindsFit s → Among s b → Among s c → b.path ≡ c.path → b ≡ c
bind_once _ b _ f first first e = refl
bind_once _ b c f first (later m) e = absurd (f.1 (record { bind = c; among = m; is = sym e }))
bind_once _ b c f (later a) first e = absurd (f.1 (record { bind = b; among = a; is = e }))
bind_once _ b c f (later a) (later m) e = bind_once _ b c f.0 a m e

loosened_type : (p : Program) (v : Views) (b c : Bind) (V : Path) → Loosened b c → InType p v b.ty V
    → InType p v c.ty V
loosened_type p v b c V l i = at b.ty c.ty l.atoms l.kind l.plain i where
  no : false ≡ true → ⊥
  no k = cc

  at : (t u : Ty) → atoms_in u ≡ atoms_in t → is_class u ≡ is_class t → (is_class t ≡ false → u ≡ t)
      → InType p v t V → InType p v u V
  at (ty.Class xs m) (ty.Class ys n) e k same i = λ x a. i x (subst (λ (zs : List Atom). Among zs x) e a)
  at (ty.Class xs m) ty.Int e k same i = absurd (no k)
  at (ty.Class xs m) ty.Bool e k same i = absurd (no k)
  at (ty.Class xs m) ty.Null e k same i = absurd (no k)
  at (ty.Class xs m) ty.Void e k same i = absurd (no k)
  at ty.Int u e k same i = absurd i
  at ty.Bool u e k same i = absurd i
  at ty.Null u e k same i = absurd i
  at ty.Void u e k same i = absurd i

pub all_small : (f : Frame) (w : Views) (q : ℕ) → q < 256 → all_views f w q ≡ frame_views f q
all_small f w q l = ap (λ (b : Bool). cond b (frame_views f q) (w q)) (lt-ltb q 256 l)

narrow_scope : {p : Program} {h : Heap} {g : Frame} {vs : List Var} {s : Scope} {w : Views} (n : ℕ) (t : Scope)
    → Narrowed s t → BindsFit t → Covers (take n vs) t
    → InScope p h g w vs s → InScope p h (cut n g) no_views (take n vs) t
narrow_scope {p} {h} {g} {vs} {s} {w} n t l b c k = record {
  declared = declared;
  binds = b;
  respects = record { bound = bound_at; universe = universe_at; holds = holds_at };
  values = λ y d a m e. let z = narrowed_from s t l d m in
      value_same p v v' h d.ty y.value (fits_agree t v v' d.ty agree (fits_whole m b))
      (loosened_in z.bind d y.value k.binds k.respects z.loosened
      (k.values y z.bind (among_take n g.vars y a) z.among (sym z.loosened.path ∙ e)));
  bound = bound_of_var;
  real = λ y a. k.real y (among_take n g.vars y a);
  seen = λ y a. frame_prefix n g y a ∙ k.seen y (among_take n g.vars y a);
  small = λ y a. k.small y (among_take n g.vars y a);
  no_null = not_null_prefix n g.vars k.no_null;
  own = own_prefix n vs k.own;
  this =
      record {
        object = k.this.object;
        view = k.this.view;
        is = k.this.is;
        real = k.this.real;
        super = k.this.super;
        filled = k.this.filled;
        constraints = k.this.constraints;
      };
} where
  v : Views
  v = all_views g w

  v' : Views
  v' = all_views (cut n g) no_views

  declared : declared_vars (take n g.vars) ≡ take n vs
  declared = take_declared n g.vars ∙ ap (take n) k.declared

  at_var : (y : Variable) → Among (take n g.vars) y → v y.var.path ≡ v' y.var.path
  at_var y a =
      let small : y.var.path < 256 = k.small y (among_take n g.vars y a) in
      all_small g w y.var.path small ∙ sym (frame_prefix n g y a) ∙ sym (all_small (cut n g) no_views y.var.path small)

  agree : AgreeOn t v v'
  agree = record { each = λ q m. at q (c.only q m) } where
    at : (q : ℕ) → (q ≡ 0) ⊎ ((x : Var) × Among (take n vs) x × (x.path ≡ q)) → v q ≡ v' q
    at q (inl e) = subst (λ (r : ℕ). v r ≡ v' r) (sym e) refl
    at q (inr x) =
        let y = var_of (take n g.vars) x.0 (subst (λ (zs : List Var). Among zs x.0) (sym declared) x.1) in
        subst (λ (r : ℕ). v r ≡ v' r) (ap (λ (z : Var). z.path) y.is ∙ x.2) (at_var y.variable y.among)

  bound_at : (q : ℕ) → Seen v' q → Binds t q
  bound_at q m = at (nat_lt q 256) refl m where
    small : (z : Bool) → nat_eq q 0 ≡ z → IsSome (cond z (view_in g.this) (view_of_var (take n g.vars) q)) → Binds t q
    small true e m = subst (Binds t) (sym (eqb-true q 0 e)) c.this
    small false e m =
        let y = seen_var (take n g.vars) q m in
        subst (Binds t) y.2 (c.all y.0.var
        (subst (λ (zs : List Var). Among zs y.0.var) declared (declared_among (take n g.vars) y.0 y.1)))

    at : (z : Bool) → nat_lt q 256 ≡ z → IsSome (cond z (frame_views (cut n g) q) None) → Binds t q
    at true e m = small (nat_eq q 0) refl m
    at false e m = absurd (no m) where
      no : IsSome (option_map (λ (x : Path). x) None) → ⊥
      no s = cc

  seen_back : (q : ℕ) → Seen v' q → Seen v q
  seen_back q m = subst (λ (o : Option Path). IsSome o) (sym (agree.each q (bound_at q m))) m

  universe_at : (q : ℕ) → Seen v' q → InUniverse p (view_at v' q)
  universe_at q m =
      subst (InUniverse p) (view_same v v' q (agree.each q (bound_at q m))) (k.respects.universe q (seen_back q m))

  holds_at : (d : Bind) → Among t d → Seen v' d.path → InType p v' d.ty (view_at v' d.path)
  holds_at d m z =
      let from = narrowed_from s t l d m in
      let seen : Seen v d.path = seen_back d.path z in
      let one : InType p v from.bind.ty (view_at v from.bind.path) = k.respects.holds from.bind from.among
      (subst (Seen v) from.loosened.path seen) in
      let two : InType p v d.ty (view_at v d.path) = subst (λ (q : ℕ). InType p v d.ty (view_at v q))
      (sym from.loosened.path) (loosened_type p v from.bind d _ from.loosened one) in
      subst (InType p v' d.ty) (view_same v v' d.path (agree.each d.path (bound_at d.path z)))
      (type_same p v v' d.ty (view_at v d.path) (fits_agree t v v' d.ty agree (fits_whole m b)) two)

  bound_of_var : (y : Variable) → Among (take n g.vars) y
      → (d : Bind) × Among t d × (d.path ≡ y.var.path) × (atoms_in d.ty ≡ atoms_in y.var.ty) ×
      (is_class d.ty ≡ is_class y.var.ty)
  bound_of_var y a =
      let m = c.all y.var (subst (λ (zs : List Var). Among zs y.var) declared (declared_among (take n g.vars) y a)) in
      let from = narrowed_from s t l m.bind m.among in
      let old = k.bound y (among_take n g.vars y a) in
      let same : from.bind ≡ old.0 = bind_once s from.bind old.0 k.binds from.among old.1
      (sym from.loosened.path ∙ m.is ∙ sym old.2) in (
        m.bind,
        m.among,
        m.is,
        from.loosened.atoms ∙ ap (λ (z : Bind). atoms_in z.ty) same ∙ old.3,
        from.loosened.kind
            ∙ ap (λ (z : Bind). is_class z.ty) same ∙ old.4,
      )

take_short : (n : ℕ) (xs : List Var) → length (take n xs) ≤ length xs
take_short zero xs = omega arith
take_short (suc n) [] = omega arith
take_short (suc n) (x ∷ xs) = omega (arith, take_short n xs)

-- WHAT IS KNOWN: `narrows`
pub stands_narrow : {p : Program} {h : Heap} {f : Frame} {x : Header} {vs us : List Var} {s t : Scope}
    {ops : List Opd} {w : Views} → us ≡ take (length us) vs
    → length f.method.params ≤ length us → Narrowed s t → BindsFit t → Covers us t → Stands p h f x vs s ops w →
    Stands p h f x us t [] no_views
stands_narrow {p} {h} {f} {x} {vs} {us} {s} {t} e l n b c a = record {
  is_header = a.is_header;
  params = ap (take (length f.method.params)) e ∙ take-take (length f.method.params) (length us) vs l ∙ a.params;
  all_params = l;
  in_scope = subst (λ (zs : List Var). InScope p h (cut (length us) f) no_views zs t) (sym e)
      (subst (λ (V : List Variable). InScope p h (record f { vars = V }) no_views (take (length us) vs) t)
      (take-take (length us) (length vs) f.vars short)
      (narrow_scope (length us) t n b (subst (λ (zs : List Var). Covers zs t) e c) a.in_scope));
  operands = no_opds;
} where
  short : length us ≤ length vs
  short = subst (λ (zs : List Var). length zs ≤ length vs) (sym e) (take_short (length us) vs)

-- WHAT IS KNOWN: `settles`
pub stands_settle : {p : Program} {h : Heap} {f : Frame} {x : Header} {vs : List Var} {s t : Scope} {ops : List Opd}
    {w : Views} (u : Ty) (q : Option ℕ) → length f.method.params ≤ length vs → Narrowed s t → BindsFit t → Covers vs t
    → TypeFits t u → Stands p h f x vs s (opd u q ∷ ops) w → Stands p h f x vs t (opd u None ∷ []) no_views
stands_settle {p} {h} {f} {x} {vs} {s} {t} {ops} {w} u q l n b c fits a = record {
  is_header = narrow.is_header;
  params = narrow.params;
  all_params = narrow.all_params;
  in_scope = narrow.in_scope;
  operands = at f.vals a.operands;
} where
  narrow : Stands p h f x vs t [] no_views
  narrow = stands_narrow (whole vs) l n b c a where
    whole : (us : List Var) → us ≡ take (length us) us
    whole [] = refl
    whole (u ∷ us) = ap (λ (r : List Var). u ∷ r) (whole us)

  agree : AgreeOn t (all_views (cut (length vs) f) w) (all_views (cut (length vs) f) no_views)
  agree = record { each = λ q m. path q (c.only q m) } where
    path : (q : ℕ) → (q ≡ 0) ⊎ ((z : Var) × Among vs z × (z.path ≡ q))
        → all_views (cut (length vs) f) w q ≡ all_views (cut (length vs) f) no_views q
    path q (inl e) =
        subst (λ (r : ℕ). all_views (cut (length vs) f) w r ≡ all_views (cut (length vs) f) no_views r) (sym e) refl
    path q (inr z) =
        let y = var_of (take (length vs) f.vars) z.0
        (subst (λ (l : List Var). Among l z.0) (sym a.in_scope.declared) z.1) in
        let small : y.variable.var.path < 256 = a.in_scope.small y.variable y.among in
        subst (λ (r : ℕ). all_views (cut (length vs) f) w r ≡ all_views (cut (length vs) f) no_views r)
        (ap (λ (v : Var). v.path) y.is ∙ z.2)
        (all_small (cut (length vs) f) w y.variable.var.path small
        ∙ sym (all_small (cut (length vs) f) no_views y.variable.var.path small))

  no_path : (r : ℕ) → None ≡ Some r → ⊥
  no_path r e = cc

  at : (vals : List Value)
      → OperandsFit p (take (length vs) f.vars) h s (all_views (cut (length vs) f) w) (opd u q ∷ ops) vals
      → OperandsFit p (take (length vs) f.vars) h t (all_views (cut (length vs) f) no_views) (opd u None ∷ []) vals
  at _ (one {x = y} i r) =
      one (record {
        fits = fits;
        bound = λ r e. absurd (no_path r e);
        is_in =
            value_same p (all_views (cut (length vs) f) w) (all_views (cut (length vs) f) no_views) h u y
            (fits_agree t (all_views (cut (length vs) f) w) (all_views (cut (length vs) f) no_views) u agree fits)
            i.is_in;
        real = i.real;
        path = λ r e. absurd (no_path r e);
        held = λ r m e. absurd (no_path r.var.path e);
      }) no_opds
