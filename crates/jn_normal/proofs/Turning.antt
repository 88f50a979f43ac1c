-- One rewriting by the bind of the atom's path, and why no other bind rewrites it.
use Rattle.std.proofs.Common.{◌≡◌, ◌<◌, ◌≤◌, ◌^◌, ℕ, Bool, List, [], ◌∷◌, ◌++◌, length, map, reverse, take, drop, get_or, Option, None, Some, suc, refl, sym, ap, ◌∙◌, subst, arith, cond, ne_eqb, eq-eqb}
use Rattle.std.specs.Prelude.{IfNone, IfSome}
use Rattle.std.proofs.lemmas.List.{reverse-append, reverse-reverse, map-append, take-append-drop, take-take, length-take-le}
use Rattle.std.proofs.lemmas.List.Elements.{All-contains}
use Rattle.std.proofs.lemmas.Option.{slice_get_within, get_or_from_slice_get}
use Rattle.jn_base.specs.declared.types.Anchor.TheVariants.{Root, Up}
use Rattle.jn_base.specs.declared.types.Ty.{Ty}
use Rattle.jn_base.specs.Atoms.{Atom, atoms_in, levels, Among, first, later}
use Rattle.jn_base.specs.Scopes.{Bind as TypeBind, Scope}
use Rattle.jn_base.specs.Fits.{Anchored, BindsFit}
use Rattle.jn_sem.specs.Normal.{by_first, rewritten, rewritten_at, normal}
use Rattle.jn_sem.proofs.Codes.{contains_of, among_reversed, levels_small}
use Rattle.jn_sem.proofs.Levels.{rewritten_anchored}
use Rattle.jn_sem.proofs.NormalTypes.{map_among}
use Rattle.jn_intern.specs.declared.scope.Bind.{Bind}
use Rattle.jn_intern.specs.Pools.{bind_in, shown}
use Rattle.jn_intern.specs.Places.{IsAt, Lacks}
use Rattle.jn_intern.proofs.Standing.{types_split, get_front}

-- the binds as a scope, the newest first
abbrev pub types_of : List Ty → List Bind → Scope
types_of pool bs = reverse (map (bind_in pool) bs)

-- ---- binds of other paths change nothing

abbrev pub NoneOf : Scope → ℕ → Type 0
NoneOf s q = (b : TypeBind) → Among s b → b.path ≡ q → ⊥

pub rooted : (s : Scope) (x : Atom) → x.anchor ≡ Root → normal s x ≡ x
rooted [] x e = refl
rooted (b ∷ s) x e = ap (normal s) (ap (rewritten_at b x) e) ∙ rooted s x e

module _ (x : Atom) (q k : ℕ) (e : x.anchor ≡ Up q k) where
  by_other : (b : TypeBind) → (b.path ≡ q → ⊥) → rewritten b x ≡ x
  by_other b n = ap (rewritten_at b x) e ∙ ap (λ (t : Bool). cond t (by_first k x (atoms_in b.ty)) x) (ne_eqb q b.path (λ h. n (sym h)))

  by_own : (b : TypeBind) → b.path ≡ q → rewritten b x ≡ by_first k x (atoms_in b.ty)
  by_own b h = ap (rewritten_at b x) e ∙ ap (λ (t : Bool). cond t (by_first k x (atoms_in b.ty)) x) (eq-eqb q b.path (sym h))

  passes : (front s : Scope) → NoneOf front q → normal (front ++ s) x ≡ normal s x
  passes [] s n = refl
  passes (b ∷ front) s n = ap (normal (front ++ s)) (by_other b (n b first)) ∙ passes front s (λ c m. n c (later m))

  stays : (s : Scope) → NoneOf s q → normal s x ≡ x
  stays [] n = refl
  stays (b ∷ s) n = ap (normal s) (by_other b (n b first)) ∙ stays s (λ c m. n c (later m))

-- ---- a path is bound once

among_here : (front s : Scope) (b : TypeBind) → Among (front ++ b ∷ s) b
among_here [] s b = first
among_here (c ∷ front) s b = later (among_here front s b)

pub none_before : (front s : Scope) (b : TypeBind) → BindsFit (front ++ b ∷ s) → NoneOf front b.path
none_before [] s b f d m e = elim m [ ]
none_before (c ∷ front) s b f _ first e = f.1 (record { bind = b; among = among_here front s b; is = sym e })
none_before (c ∷ front) s b f d (later m) e = none_before front s b f.0 d m e

pub none_behind : (s : Scope) (b : TypeBind) → BindsFit (b ∷ s) → NoneOf s b.path
none_behind s b f c m e = f.1 (record { bind = c; among = m; is = e })

pub rest_fits : (front s : Scope) → BindsFit (front ++ s) → BindsFit s
rest_fits [] s f = f
rest_fits (c ∷ front) s f = rest_fits front s f.0

-- the oldest n binds of a scope that fits do
pub front_fits : (pool : List Ty) (bs : List Bind) (n : ℕ) → BindsFit (types_of pool bs) → BindsFit (types_of pool (take n bs))
front_fits pool bs n f =
    let whole : types_of pool bs ≡ types_of pool (drop n bs) ++ types_of pool (take n bs) =
    ap (types_of pool) (sym (take-append-drop n bs))
    ∙ (ap (λ (l : Scope). reverse l) (map-append (bind_in pool) (take n bs) (drop n bs))
    ∙ reverse-append (map (bind_in pool) (take n bs)) (map (bind_in pool) (drop n bs))) in
    rest_fits (types_of pool (drop n bs)) (types_of pool (take n bs)) (subst BindsFit whole f)

pub lacks_types : (pool : List Ty) (bs : List Bind) (q : ℕ) → Lacks bs q → NoneOf (types_of pool bs) q
lacks_types pool bs q none c m e =
    let turned : Among (map (bind_in pool) bs) c =
    subst (λ (l : List TypeBind). Among l c) (reverse-reverse (map (bind_in pool) bs)) (among_reversed (types_of pool bs) c m) in
    let b = map_among (bind_in pool) bs c turned in
    All-contains (λ (d : Bind). d.path ≡ q → ⊥) bs b.0 none (contains_of bs b.0 b.1) (ap (λ (d : TypeBind). d.path) b.2 ∙ e)

-- ---- one rewriting, by the bind at i among the oldest n

pub no_bind : (pool : List Ty) (bs : List Bind) (x : Atom) (q k : ℕ) → x.anchor ≡ Up q k → Lacks bs q → normal (types_of pool bs) x ≡ x
no_bind pool bs x q k e none = stays x q k e (types_of pool bs) (lacks_types pool bs q none)

module _ (pool : List Ty) (bs : List Bind) (n i q k : ℕ) (x : Atom) (d : Bind) (t : Ty) (f : BindsFit (types_of pool bs)) (le : n ≤ length bs) (e : x.anchor ≡ Up q k)
    (h : IsAt (take n bs) q i) (is : t ≡ shown pool (get_or bs i d).ty) where
  read : get_or bs i d ≡ h.bind
  read = get_or_from_slice_get bs i h.bind d (get_front bs n i h.bind h.at)

  ty_is : t ≡ shown pool h.bind.ty
  ty_is = is ∙ ap (λ (b : Bind). shown pool b.ty) read

  abbrev b : TypeBind
  b = bind_in pool h.bind

  own : rewritten b x ≡ by_first k x (atoms_in t)
  own = by_own x q k e b h.path ∙ ap (λ (u : Ty). by_first k x (atoms_in u)) (sym ty_is)

  abbrev behind : Scope
  behind = types_of pool (drop (suc i) (take n bs))

  abbrev older : Scope
  older = types_of pool (take i (take n bs))

  split : types_of pool (take n bs) ≡ behind ++ b ∷ older
  split = types_split pool (take n bs) i h.bind h.at

  parts_fit : BindsFit (behind ++ b ∷ older)
  parts_fit = subst BindsFit split (front_fits pool bs n f)

  older_is : older ≡ types_of pool (take i bs)
  older_is =
      let l = slice_get_within (take n bs) i h.bind h.at in
      ap (types_of pool) (take-take i n bs (omega (arith, l, length-take-le n bs le)))

  at_bind : normal (types_of pool (take n bs)) x ≡ normal older (by_first k x (atoms_in t))
  at_bind =
      ap (λ (s : Scope). normal s x) split
      ∙ (passes x q k e behind (b ∷ older) (λ c m g. none_before behind older b parts_fit c m (g ∙ sym h.path))
      ∙ ap (normal older) own)

  among : Among (types_of pool bs) b
  among =
      subst (λ (s : Scope). Among s b) (sym (types_split pool bs i h.bind (get_front bs n i h.bind h.at)))
      (among_here (types_of pool (drop (suc i) bs)) (types_of pool (take i bs)) b)

  module _ (g : Anchored (types_of pool bs) x.anchor) where
    anchored : Anchored (types_of pool bs) (by_first k x (atoms_in t)).anchor
    anchored = subst (λ (y : Atom). Anchored (types_of pool bs) y.anchor) own (rewritten_anchored f among x g)

    pub step_small : levels (by_first k x (atoms_in t)).anchor < 2 ^ 8
    step_small = let l = levels_small (types_of pool bs) f (by_first k x (atoms_in t)).anchor anchored in omega (arith, l)

    pub step_anchored : (y : Atom) → y ≡ by_first k x (atoms_in t) → Anchored (types_of pool bs) y.anchor
    step_anchored y w = subst (λ (z : Atom). Anchored (types_of pool bs) z.anchor) (sym w) anchored

  pub step_same : (y : Atom) → y ≡ by_first k x (atoms_in t) → normal (types_of pool (take n bs)) x ≡ normal (types_of pool (take i bs)) y
  step_same y w = at_bind ∙ (ap (normal older) (sym w) ∙ ap (λ (s : Scope). normal s y) older_is)

  pub step_ends : by_first k x (atoms_in t) ≡ x → normal (types_of pool (take n bs)) x ≡ x
  step_ends w =
      at_bind ∙ (ap (normal older) w
      ∙ stays x q k e older (λ c m g. none_behind older b (rest_fits behind (b ∷ older) parts_fit) c m (g ∙ sym h.path)))

-- ---- what an option has

pub none_there : {A P : Type 0} (o : Option A) → o ≡ None → IfNone o P → P
none_there None e h = h
none_there (Some x) e h = absurd (cc e)

pub some_there : {A : Type 0} (P : A → Type 0) (o : Option A) (y : A) → o ≡ Some y → IfSome o P → P y
some_there P None y e h = absurd (cc e)
some_there P (Some x) y e h = let same : x ≡ y = cc e in subst P same h
