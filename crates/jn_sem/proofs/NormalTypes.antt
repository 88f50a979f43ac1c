-- Normal forms of types: they fit, there is one at most, and it is its own.
use Rattle.std.proofs.Common.{◌≡◌, ◌↔◌, ℕ, List, [], ◌∷◌, length, map, reverse, refl, sym, ap, ◌∙◌, subst, ◌≤◌, ◌⊎◌, inl, inr}
use Rattle.std.proofs.lemmas.List.{reverse-reverse}
use Rattle.std.specs.declared.cmp.Ordering.{Ordering}
use Rattle.std.specs.declared.cmp.Ordering.TheVariants.{Less, Equal, Greater}
use Rattle.std.specs.Ordering.{ordering_reverse}
use Rattle.std.specs.List.{AllByRecursion}
use Rattle.std.specs.List.Sorted.{IsStrictlySortedBy}
use Rattle.std.specs.Cmp.{IsTotalOrder}
use Rattle.std.proofs.lemmas.Map.Keys.{sorted_head, sorted_tail}
use Rattle.jn_base.specs.declared.tree.Name.{Name}
use Rattle.jn_base.specs.declared.types.Anchor.{Anchor}
use Rattle.jn_base.specs.declared.types.Anchor.TheVariants.{Root, Up}
use Rattle.jn_base.specs.declared.types.Atom.{Atom as ShownAtom}
use Rattle.jn_base.specs.declared.types.Masks.{Masks}
use Rattle.jn_base.specs.declared.types.Ty.{Ty}
use Rattle.jn_base.specs.declared.types.Ty.TheVariants as ty
use Rattle.jn_base.specs.Atoms.{Atom, atom, atom_of, shown_atom, atoms_in, Among, first, later}
use Rattle.jn_base.specs.Scopes.{Bind, Scope, bound}
use Rattle.jn_base.specs.Fits.{Anchored, IsClassType, AtomsFit, TypeFits, BindsFit}
use Rattle.jn_sem.specs.Normal.{normal, rewritten, moved_anchor, moved, same_path, atom_total, IsSubst, TypeSubst, NormalType, MovedFits, EndsWith}
use Rattle.jn_sem.proofs.Normals.{Turns, turned, left, rewritten_is, normal_ends}
use Rattle.jn_sem.specs.NormalFunction.{moved_normal, subst_atoms, subst_type}
use Rattle.jn_sem.proofs.AtomOrder.{order_sorted, order_each, order_only}
use Rattle.jn_sem.proofs.Levels.{normal_anchored, normal_depth}

-- elements

pub among_map : {A B : Type 0} (f : A → B) (xs : List A) (x : A) → Among xs x → Among (map f xs) (f x)
among_map f _ x first = first
among_map f _ x (later {xs = ys} m) = later (among_map f ys x m)

pub map_among : {A B : Type 0} (f : A → B) (xs : List A) (y : B) → Among (map f xs) y → (x : A) × Among xs x × (f x ≡ y)
map_among f [] y m = elim m [ ]
map_among f (x ∷ xs) _ first = (x, first, refl)
map_among f (x ∷ xs) y (later m) = let r = map_among f xs y m in (r.0, later r.1, r.2)

-- the normal form again

settled_normal : (s : Scope) (x : Atom) → ((b : Bind) → Among s b → rewritten b x ≡ x) → normal s x ≡ x
settled_normal [] x h = refl
settled_normal (b ∷ s) x h = ap (normal s) (h b first) ∙ settled_normal s x (λ c m. h c (later m))

pub normal_again : (s : Scope) → BindsFit s → (x : Atom) → normal s (normal s x) ≡ normal s x
normal_again s f x = settled_normal s (normal s x) one where
  y : Atom
  y = normal s x

  e : EndsWith s x (normal s x)
  e = normal_ends s f x

  one : (b : Bind) → Among s b → rewritten b (normal s x) ≡ normal s x
  one b m = at (rewritten_is b (normal s x)) where
    at : Turns b (normal s x) (rewritten b (normal s x)) → rewritten b (normal s x) ≡ normal s x
    at (turned k z a c w i) =
        absurd (e.stays (rewritten b (normal s x)) (record { bind = b; levels = k; by = z; bound_in = m; anchor = a; is_first = w; is = i }))
    at (left i n) = i

moved_anchor_same : (a : Anchor) → moved_anchor same_path a ≡ a
moved_anchor_same Root = refl
moved_anchor_same (Up q k) = refl

pub moved_same : (x : Atom) → moved same_path x ≡ x
moved_same x = ap (λ (a : Anchor). atom a x.exact x.names) (moved_anchor_same x.anchor)

-- strictly sorted lists of the same elements are the same

all_at : {A : Type 0} (P : A → Type 0) (xs : List A) (x : A) → AllByRecursion P xs → Among xs x → P x
all_at P [] x h m = elim m [ ]
all_at P (y ∷ ys) _ h first = h.0
all_at P (y ∷ ys) x h (later m) = all_at P ys x h.1 m

cases_among : {A : Type 0} (y : A) (ys : List A) (x : A) → Among (y ∷ ys) x → (x ≡ y) ⊎ Among ys x
cases_among y ys _ first = inl refl
cases_among y ys x (later m) = inr m

IsLess : Ordering → Type 0
IsLess Less = Unit {0}
IsLess Equal = ⊥
IsLess Greater = ⊥

less_once : {A : Type 0} {R : A → A → Ordering} → IsTotalOrder R → (x y : A) → R x y ≡ Less → R y x ≡ Less → ⊥
unfolding IsLess
less_once o x y e f = subst IsLess (sym e ∙ o.antisymm x y ∙ ap ordering_reverse f) tt

not_itself : {A : Type 0} {R : A → A → Ordering} → IsTotalOrder R → (x : A) → R x x ≡ Less → ⊥
not_itself o x e = less_once o x x e e

pub SameElements : {A : Type 0} → List A → List A → Type 0
SameElements {A} xs ys = (x : A) → Among xs x ↔ Among ys x

heads : {A : Type 0} {R : A → A → Ordering} → IsTotalOrder R → (y : A) (ys : List A) (z : A) (zs : List A)
    → IsStrictlySortedBy R (y ∷ ys) → IsStrictlySortedBy R (z ∷ zs) → Among (z ∷ zs) y → Among (y ∷ ys) z → y ≡ z
heads {A} {R} o y ys z zs sy sz a b = at (cases_among z zs y a) (cases_among y ys z b) where
  at : (y ≡ z) ⊎ Among zs y → (z ≡ y) ⊎ Among ys z → y ≡ z
  at (inl e) q = e
  at (inr m) (inl e) = sym e
  at (inr m) (inr n) = absurd (less_once o z y (all_at (λ x. R z x ≡ Less) zs y (sorted_head R z zs sz) m) (all_at (λ x. R y x ≡ Less) ys z (sorted_head R y ys sy) n))

tail_in : {A : Type 0} {R : A → A → Ordering} → IsTotalOrder R → (y : A) (ys : List A) (z : A) (zs : List A) → y ≡ z
    → IsStrictlySortedBy R (y ∷ ys) → ((x : A) → Among (y ∷ ys) x → Among (z ∷ zs) x) → (x : A) → Among ys x → Among zs x
tail_in {A} {R} o y ys z zs e s h x m = at (cases_among z zs x (h x (later m))) where
  at : (x ≡ z) ⊎ Among zs x → Among zs x
  at (inl i) = absurd (not_itself o y (subst (λ (w : A). R y w ≡ Less) (i ∙ sym e) (all_at (λ w. R y w ≡ Less) ys x (sorted_head R y ys s) m)))
  at (inr n) = n

pub sorted_once : {A : Type 0} {R : A → A → Ordering} → IsTotalOrder R → (ys zs : List A) → IsStrictlySortedBy R ys → IsStrictlySortedBy R zs
    → ((x : A) → Among ys x → Among zs x) → ((x : A) → Among zs x → Among ys x) → ys ≡ zs
sorted_once o [] [] sy sz f g = refl
sorted_once o [] (z ∷ zs) sy sz f g = elim (g z first) [ ]
sorted_once o (y ∷ ys) [] sy sz f g = elim (f y first) [ ]
sorted_once {A} {R} o (y ∷ ys) (z ∷ zs) sy sz f g =
    let e : y ≡ z = heads o y ys z zs sy sz (f y first) (g z first) in
    let rest : ys ≡ zs = sorted_once o ys zs (sorted_tail R y ys sy) (sorted_tail R z zs sz) (tail_in o y ys z zs e sy f) (tail_in o z zs y ys (sym e) sz g) in
    ap (λ (x : A). x ∷ ys) e ∙ ap (λ (xs : List A). z ∷ xs) rest

-- there is one substituted list at most

pub subst_once : {s : Scope} {f : ℕ → ℕ} {xs ys zs : List Atom} → IsSubst s f xs ys → IsSubst s f xs zs → ys ≡ zs
subst_once {s} {f} {xs} {ys} {zs} a b = sorted_once atom_total ys zs a.sorted b.sorted (one a b) (one b a) where
  one : {ts us : List Atom} → IsSubst s f xs ts → IsSubst s f xs us → (x : Atom) → Among ts x → Among us x
  one {us = us} c d x m =
      let r = c.only x m in
      subst (Among us) (sym r.2) (d.each r.0 r.1)

shown_back : (x : ShownAtom) → shown_atom (atom_of x) ≡ x
shown_back x = ap (λ (es : List Name). ShownAtom-of es (reverse (reverse x.names))) (reverse-reverse x.exact) ∙ ap (λ (ns : List Name). ShownAtom-of x.exact ns) (reverse-reverse x.names) where
  ShownAtom-of : List Name → List Name → ShownAtom
  ShownAtom-of es ns = record { anchor = x.anchor; exact = es; names = ns }

map_back : (xs : List ShownAtom) → map shown_atom (map atom_of xs) ≡ xs
map_back [] = refl
map_back (x ∷ xs) = ap (λ (y : ShownAtom). y ∷ map shown_atom (map atom_of xs)) (shown_back x) ∙ ap (λ (ys : List ShownAtom). x ∷ ys) (map_back xs)

-- the code's lists of atoms are those of the definitions
pub shown_once : (xs ys : List ShownAtom) → map atom_of xs ≡ map atom_of ys → xs ≡ ys
shown_once xs ys e = sym (map_back xs) ∙ ap (map shown_atom) e ∙ map_back ys

-- there is one substituted type at most
pub type_subst_once : (s : Scope) (f : ℕ → ℕ) (t u w : Ty) → TypeSubst s f t u → TypeSubst s f t w → u ≡ w
type_subst_once s f (ty.Class xs m) (ty.Class ys n) (ty.Class zs o) a b =
    ap (λ (ts : List ShownAtom). ty.Class ts n) (shown_once ys zs (subst_once a.0 b.0)) ∙ ap (λ (k : Masks). ty.Class zs k) (a.1 ∙ sym b.1)
type_subst_once s f (ty.Class xs m) (ty.Class ys n) ty.Int a b = absurd b
type_subst_once s f (ty.Class xs m) (ty.Class ys n) ty.Bool a b = absurd b
type_subst_once s f (ty.Class xs m) (ty.Class ys n) ty.Null a b = absurd b
type_subst_once s f (ty.Class xs m) (ty.Class ys n) ty.Void a b = absurd b
type_subst_once s f (ty.Class xs m) ty.Int w a b = absurd a
type_subst_once s f (ty.Class xs m) ty.Bool w a b = absurd a
type_subst_once s f (ty.Class xs m) ty.Null w a b = absurd a
type_subst_once s f (ty.Class xs m) ty.Void w a b = absurd a
type_subst_once s f ty.Int u w a b = a ∙ sym b
type_subst_once s f ty.Bool u w a b = a ∙ sym b
type_subst_once s f ty.Null u w a b = a ∙ sym b
type_subst_once s f ty.Void u w a b = a ∙ sym b

-- what is substituted fits where the type with its paths replaced does

subst_fits : {s : Scope} {f : ℕ → ℕ} {xs ys : List Atom} → BindsFit s → AtomsFit s (map (moved f) xs) → IsSubst s f xs ys → AtomsFit s ys
subst_fits {s} {f} {xs} {ys} g a i =
    let o = map_among (moved f) xs a.one a.among in
    let head : moved f o.0 ≡ a.one = o.2 in record {
      one = normal s (moved f o.0);
      among = i.each o.0 o.1;
      anchored = λ y m. (one y m).0;
      depth = λ y m. (one y m).1 ∙ sym (normal_depth s g (moved f o.0) (subst (λ (z : Atom). Anchored s z.anchor) (sym head) (a.anchored a.one a.among)) ∙ ap (λ (z : Atom). length (bound s z)) head);
      shallow = subst (λ (n : ℕ). n ≤ 255) (sym (normal_depth s g (moved f o.0) (subst (λ (z : Atom). Anchored s z.anchor) (sym head) (a.anchored a.one a.among)) ∙ ap (λ (z : Atom). length (bound s z)) head)) a.shallow;
    } where
      one : (y : Atom) → Among ys y → Anchored s y.anchor × (length (bound s y) ≡ length (bound s a.one))
      one y m =
          let r = i.only y m in
          let b : Among (map (moved f) xs) (moved f r.0) = among_map (moved f) xs r.0 r.1 in
          let h = a.anchored (moved f r.0) b in (
            subst (λ (z : Atom). Anchored s z.anchor) (sym r.2) (normal_anchored s g (moved f r.0) h),
            ap (λ (z : Atom). length (bound s z)) r.2 ∙ normal_depth s g (moved f r.0) h ∙ a.depth (moved f r.0) b,
          )

no_class_fits : {s : Scope} (t u : Ty) → (IsClassType t → ⊥) → u ≡ t → TypeFits s u
no_class_fits t u n e = record { atoms = λ c. absurd (n (subst IsClassType e c)) }

pub type_subst_fits : (s : Scope) (f : ℕ → ℕ) (t u : Ty) → BindsFit s → MovedFits s f t → TypeSubst s f t u → TypeFits s u
type_subst_fits s f (ty.Class xs m) (ty.Class ys n) g a i = record { atoms = λ c. subst_fits g (a tt) i.0 }
type_subst_fits s f (ty.Class xs m) ty.Int g a i = absurd i
type_subst_fits s f (ty.Class xs m) ty.Bool g a i = absurd i
type_subst_fits s f (ty.Class xs m) ty.Null g a i = absurd i
type_subst_fits s f (ty.Class xs m) ty.Void g a i = absurd i
type_subst_fits s f ty.Int u g a i = no_class_fits ty.Int u (λ c. c) i
type_subst_fits s f ty.Bool u g a i = no_class_fits ty.Bool u (λ c. c) i
type_subst_fits s f ty.Null u g a i = no_class_fits ty.Null u (λ c. c) i
type_subst_fits s f ty.Void u g a i = no_class_fits ty.Void u (λ c. c) i

map_same : (xs : List Atom) → map (moved same_path) xs ≡ xs
map_same [] = refl
map_same (x ∷ xs) = ap (λ (y : Atom). y ∷ map (moved same_path) xs) (moved_same x) ∙ ap (λ (ys : List Atom). x ∷ ys) (map_same xs)

pub normal_fits : (s : Scope) (t u : Ty) → BindsFit s → TypeFits s t → NormalType s t u → TypeFits s u
normal_fits s t u g f i = type_subst_fits s same_path t u g (λ c. subst (AtomsFit s) (sym (map_same (atoms_in t))) (f.atoms c)) i

-- a normal form is its own

own_atoms : {s : Scope} {xs ys : List Atom} → BindsFit s → IsSubst s same_path xs ys → (y : Atom) → Among ys y → normal s (moved same_path y) ≡ y
own_atoms {s} g i y m =
    let r = i.only y m in
    ap (normal s) (moved_same y) ∙ ap (normal s) r.2 ∙ normal_again s g (moved same_path r.0) ∙ sym r.2

subst_again : {s : Scope} {xs ys : List Atom} → BindsFit s → IsSubst s same_path xs ys → IsSubst s same_path ys ys
subst_again {s} {xs} {ys} g i = record {
  each = λ y m. subst (Among ys) (sym (own_atoms g i y m)) m;
  only = λ y m. (y, m, sym (own_atoms g i y m));
  sorted = i.sorted;
}

pub normal_type_again : (s : Scope) (t u : Ty) → BindsFit s → NormalType s t u → NormalType s u u
normal_type_again s (ty.Class xs m) (ty.Class ys n) g i = (subst_again g i.0, refl)
normal_type_again s (ty.Class xs m) ty.Int g i = absurd i
normal_type_again s (ty.Class xs m) ty.Bool g i = absurd i
normal_type_again s (ty.Class xs m) ty.Null g i = absurd i
normal_type_again s (ty.Class xs m) ty.Void g i = absurd i
normal_type_again s ty.Int u g i = subst (λ (t : Ty). NormalType s t t) (sym i) refl
normal_type_again s ty.Bool u g i = subst (λ (t : Ty). NormalType s t t) (sym i) refl
normal_type_again s ty.Null u g i = subst (λ (t : Ty). NormalType s t t) (sym i) refl
normal_type_again s ty.Void u g i = subst (λ (t : Ty). NormalType s t t) (sym i) refl

-- the functions give what the relations pin down

subst_atoms_is : (s : Scope) (f : ℕ → ℕ) (xs : List Atom) → IsSubst s f xs (subst_atoms s f xs)
subst_atoms_is s f xs = record {
  each = λ x m. order_each (map (moved_normal s f) xs) (normal s (moved f x)) (among_map (moved_normal s f) xs x m);
  only = λ y m.
      let r = map_among (moved_normal s f) xs y (order_only (map (moved_normal s f) xs) y m) in
      (r.0, r.1, sym r.2);
  sorted = order_sorted (map (moved_normal s f) xs);
}

atom_back : (x : Atom) → atom_of (shown_atom x) ≡ x
atom_back x = ap (λ (es : List Name). atom x.anchor es (reverse (reverse x.names))) (reverse-reverse x.exact) ∙ ap (λ (ns : List Name). atom x.anchor x.exact ns) (reverse-reverse x.names)

pub atoms_back : (xs : List Atom) → map atom_of (map shown_atom xs) ≡ xs
atoms_back [] = refl
atoms_back (x ∷ xs) = ap (λ (y : Atom). y ∷ map atom_of (map shown_atom xs)) (atom_back x) ∙ ap (λ (ys : List Atom). x ∷ ys) (atoms_back xs)

subst_type_is : (s : Scope) (f : ℕ → ℕ) (t : Ty) → TypeSubst s f t (subst_type s f t)
subst_type_is s f (ty.Class xs m) = (
  subst (IsSubst s f (map atom_of xs)) (sym (atoms_back (subst_atoms s f (map atom_of xs)))) (subst_atoms_is s f (map atom_of xs)),
  refl,
)
subst_type_is s f ty.Int = refl
subst_type_is s f ty.Bool = refl
subst_type_is s f ty.Null = refl
subst_type_is s f ty.Void = refl

pub type_subst_is : (s : Scope) (f : ℕ → ℕ) (t u : Ty) → TypeSubst s f t u ↔ (u ≡ subst_type s f t)
type_subst_is s f t u = (
  λ a. type_subst_once s f t u (subst_type s f t) a (subst_type_is s f t),
  λ e. subst (TypeSubst s f t) (sym e) (subst_type_is s f t),
)
