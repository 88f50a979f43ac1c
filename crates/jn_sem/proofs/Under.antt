-- What a view has in common with its path's bound, level by level.
use Rattle.std.proofs.Common.{◌≡◌, ℕ, List, [], ◌∷◌, ◌++◌, ◌<◌, ◌≤◌, length, refl, sym, ap, ◌∙◌, zero, suc, drop, arith, subst, cond, Bool, true, false, nat_eq, ne_eqb, eq-eqb}
use Rattle.jn_base.specs.declared.tree.Name.{Name}
use Rattle.jn_base.specs.declared.tree.Program.{Program}
use Rattle.jn_base.specs.declared.types.Anchor.{Anchor}
use Rattle.jn_base.specs.declared.types.Anchor.TheVariants.{Root, Up}
use Rattle.jn_base.specs.declared.types.Ty.{Ty}
use Rattle.jn_base.specs.declared.types.Ty.TheVariants as ty
use Rattle.jn_base.specs.Paths.{Path}
use Rattle.jn_base.specs.Supers.{Sup, itself}
use Rattle.jn_base.specs.Universe.{IsNamespace}
use Rattle.jn_base.specs.Atoms.{Atom, atoms_in, anchor_at, first_at, Among, first, later}
use Rattle.jn_base.specs.Scopes.{Bind, Scope, bound_of, bound, Binds}
use Rattle.jn_base.specs.Fits.{Anchored, AtomsFit, IsClassType, TypeFits, BindsFit}
use Rattle.jn_base.proofs.SuperLaws.{sup_level, sup_up, sup_joined, sup_inherited, heir_by_one}
use Rattle.jn_sem.specs.Sets.{Views, Seen, AnchorSeen, view_at, eval, InAtoms, InType, Respects}

-- as many names, and each prefix of V with B's next name is a super of V's
pub data Under (p : Program) : Path → Path → Type 0 where
  none : Under p [] []
  more : {V B : Path} {w c : Name} → Sup p (w ∷ V) (c ∷ V) → Under p V B → Under p (w ∷ V) (c ∷ B)

pub under_length : {p : Program} {V B : Path} → Under p V B → length V ≡ length B
under_length none = refl
under_length (more s u) = ap suc (under_length u)

pub under_drop : {p : Program} (k : ℕ) {V B : Path} → Under p V B → Under p (drop k V) (drop k B)
under_drop zero u = u
under_drop (suc k) none = none
under_drop (suc k) (more s u) = under_drop k u

-- where the bound is a namespace, it is a super of the view
pub under_super : {p : Program} {V B : Path} → Under p V B → IsNamespace p B → Sup p V B
under_super none n = itself
under_super (more s u) n = sup_joined s (sup_inherited (under_super u n.0) n.1)

pub under_last : {p : Program} {V B X : Path} {c : Name} → Under p V X → X ≡ c ∷ B → Sup p V (c ∷ drop 1 V)
under_last none e = absurd (omega (arith, ap length e))
under_last {p} {B = B} {c = c} (more {V = V} {B = B'} {w = w} {c = c'} s u) e = subst (λ (n : Name). Sup p (w ∷ V) (n ∷ V)) (ap (head c) e) s where
  head : Name → Path → Name
  head d [] = d
  head d (n ∷ ns) = n

pub under_exact : {p : Program} (es : List Name) {V B : Path} → Under p V B → Under p (es ++ V) (es ++ B)
under_exact [] u = u
under_exact (e ∷ es) u = more itself (under_exact es u)

pub under_names : {p : Program} {W B : Path} (ns : List Name) (V : Path) → drop (length ns) V ≡ W → Sup p V (ns ++ W) → Under p W B → Under p V (ns ++ B)
under_names {p} {W} {B} [] V e s u = subst (λ (X : Path). Under p X B) (sym e) u
under_names {p} {W} {B} (n ∷ ns) [] e s u = absurd (omega (arith, sup_level s))
under_names {p} {W} {B} (n ∷ ns) (w ∷ V) e s u = more (heir_by_one itself s) (under_names ns V e (sup_up s) u)

pub under_anchor : {p : Program} (s : Scope) (v : Views) (a : Anchor) → AnchorSeen v a
    → ((r k : ℕ) → a ≡ Up r k → Seen v r → Under p (view_at v r) (bound_of s r))
    → Under p (eval v a) (anchor_at (bound_of s) a)
under_anchor s v Root seen h = none
under_anchor s v (Up r k) seen h = under_drop k (h r k refl seen)

-- types that fit

pub class_with_atom : (t : Ty) (x : Atom) → Among (atoms_in t) x → IsClassType t
class_with_atom (ty.Class xs m) x a = tt
class_with_atom ty.Int x a = elim a [ ]
class_with_atom ty.Bool x a = elim a [ ]
class_with_atom ty.Null x a = elim a [ ]
class_with_atom ty.Void x a = elim a [ ]

-- a type with an atom has atoms that fit
pub atoms_fit : {s : Scope} {t : Ty} → TypeFits s t → (x : Atom) → Among (atoms_in t) x → AtomsFit s (atoms_in t)
atoms_fit {t = t} f x a = f.atoms (class_with_atom t x a)

pub type_anchored : {s : Scope} {t : Ty} → TypeFits s t → (x : Atom) → Among (atoms_in t) x → Anchored s x.anchor
type_anchored f x a = (atoms_fit f x a).anchored x a

-- what holds of a path of a scope where it holds of the paths in its type holds of each
go : (P : ℕ → Type 0) (s : Scope) (b : Bind) → Among s b → BindsFit s
    → ((c : Bind) → Among s c → ((x : Atom) → Among (atoms_in c.ty) x → (r k : ℕ) → x.anchor ≡ Up r k → P r) → P c.path) → P b.path
go P [] b m f h = elim m [ ]
go P (c ∷ s) b first f h = h c first (λ (x : Atom) n r k e.
    let a : Anchored s (Up r k) = subst (Anchored s) e (type_anchored f.2 x n) in
    subst P a.0.is (go P s a.0.bind a.0.among f.0 (λ d o i. h d (later o) i)))
go P (c ∷ s) b (later m) f h = go P s b m f.0 (λ d o i. h d (later o) i)

pub scope_induct : (s : Scope) (P : ℕ → Type 0) → BindsFit s
    → ((c : Bind) → Among s c → ((x : Atom) → Among (atoms_in c.ty) x → (r k : ℕ) → x.anchor ≡ Up r k → P r) → P c.path)
    → (q : ℕ) → Binds s q → P q
scope_induct s P f h q b = subst P b.is (go P s b.bind b.among f h)

bound_older : {s : Scope} {c : Bind} → BindsFit (c ∷ s) → (r : ℕ) → Binds s r → bound_of (c ∷ s) r ≡ bound_of s r
bound_older {s} {c} f r b = ap (λ t. cond t (first_at (bound_of s) (atoms_in c.ty)) (bound_of s r)) (ne_eqb r c.path (λ e. f.1 (subst (Binds s) e b)))

pub anchor_older : {s : Scope} {c : Bind} → BindsFit (c ∷ s) → (a : Anchor) → Anchored s a → anchor_at (bound_of (c ∷ s)) a ≡ anchor_at (bound_of s) a
anchor_older f Root a = refl
anchor_older f (Up r k) a = ap (drop k) (bound_older f r a.0)

pub anchored_later : {s : Scope} {c : Bind} → BindsFit (c ∷ s) → (a : Anchor) → Anchored s a → Anchored (c ∷ s) a
anchored_later f Root a = tt
anchored_later {s} {c} f (Up r k) a = (record { bind = a.0.bind; among = later a.0.among; is = a.0.is }, subst (λ (B : Path). k < length B) (sym (bound_older f r a.0)) a.1)

pub bound_later : {s : Scope} {c : Bind} → BindsFit (c ∷ s) → (x : Atom) → Anchored s x.anchor → bound (c ∷ s) x ≡ bound s x
bound_later f x a = ap (λ (X : Path). x.names ++ (x.exact ++ X)) (anchor_older f x.anchor a)

atoms_later : {s : Scope} {c : Bind} {xs : List Atom} → BindsFit (c ∷ s) → AtomsFit s xs → AtomsFit (c ∷ s) xs
atoms_later {s} {c} {xs} g f = record {
  one = f.one;
  among = f.among;
  anchored = λ x m. anchored_later g x.anchor (f.anchored x m);
  depth = λ x m. ap length (bound_later g x (f.anchored x m)) ∙ f.depth x m ∙ sym (ap length (bound_later g f.one (f.anchored f.one f.among)));
  shallow = subst (λ (B : Path). length B ≤ 255) (sym (bound_later g f.one (f.anchored f.one f.among))) f.shallow;
}

-- what fits a scope fits it with one more bind
pub type_later : {s : Scope} {c : Bind} {t : Ty} → BindsFit (c ∷ s) → TypeFits s t → TypeFits (c ∷ s) t
type_later g f = record { atoms = λ i. atoms_later g (f.atoms i) }

-- each type of the scope fits the whole scope
pub fits_whole : {s : Scope} {b : Bind} → Among s b → BindsFit s → TypeFits s b.ty
fits_whole first f = type_later f f.2
fits_whole (later m) f = type_later f (fits_whole m f.0)

first_older : {s : Scope} {c : Bind} → BindsFit (c ∷ s) → (xs : List Atom) → ((x : Atom) → Among xs x → Anchored s x.anchor)
    → first_at (bound_of (c ∷ s)) xs ≡ first_at (bound_of s) xs
first_older g [] a = refl
first_older g (x ∷ xs) a = bound_later g x (a x first)

-- the bound of a path is its first atom's
pub bound_is : {s : Scope} {b : Bind} → Among s b → BindsFit s → bound_of s b.path ≡ first_at (bound_of s) (atoms_in b.ty)
bound_is (first {x = b} {xs = s}) f =
    ap (λ t. cond t (first_at (bound_of s) (atoms_in b.ty)) (bound_of s b.path)) (eq-eqb b.path b.path refl)
    ∙ sym (first_older f (atoms_in b.ty) (type_anchored f.2))
bound_is (later {x = b} {y = c} {xs = s} m) f =
    bound_older f b.path (record { bind = b; among = m; is = refl }) ∙ bound_is m f.0
    ∙ sym (first_older f (atoms_in b.ty) (type_anchored (fits_whole m f.0)))

pub first_of : {A : Type 0} (xs : List A) (x : A) → Among xs x → (y : A) × (ys : List A) × (xs ≡ y ∷ ys)
first_of [] x a = elim a [ ]
first_of (y ∷ ys) x a = (y, ys, refl)

-- the bounds of all atoms of a path's type have its depth, which is at most 255
pub bound_depth : {s : Scope} {b : Bind} → Among s b → BindsFit s → (z : Atom) → Among (atoms_in b.ty) z → length (bound_of s b.path) ≡ length (bound s z)
bound_depth {s} {b} m f z a =
    let t = atoms_fit (fits_whole m f) z a in
    let o = first_of (atoms_in b.ty) z a in
    let among : Among (atoms_in b.ty) o.0 = subst (λ (xs : List Atom). Among xs o.0) (sym o.2) first in
    ap length (bound_is m f ∙ ap (first_at (bound_of s)) o.2) ∙ t.depth o.0 among ∙ sym (t.depth z a)

first_shallow : (s : Scope) (xs : List Atom) → ((x : Atom) → Among xs x → AtomsFit s xs) → length (first_at (bound_of s) xs) ≤ 255
first_shallow s [] f = omega arith
first_shallow s (x ∷ xs) f = let t = f x first in omega (arith, t.depth x first, t.shallow)

pub bound_shallow : (s : Scope) → BindsFit s → (q : ℕ) → length (bound_of s q) ≤ 255
bound_shallow [] f q = omega arith
bound_shallow (b ∷ s) f q = at (nat_eq q b.path) (first_shallow s (atoms_in b.ty) (atoms_fit f.2)) (bound_shallow s f.0 q) where
  at : (t : Bool) → length (first_at (bound_of s) (atoms_in b.ty)) ≤ 255 → length (bound_of s q) ≤ 255
      → length (cond t (first_at (bound_of s) (atoms_in b.ty)) (bound_of s q)) ≤ 255
  at true g h = g
  at false g h = h

-- a class is in class types alone, and there in each atom
pub type_atoms : {p : Program} {v : Views} {V : Path} (t : Ty) → InType p v t V → IsClassType t × InAtoms p v (atoms_in t) V
type_atoms (ty.Class xs m) i = (tt, i)
type_atoms ty.Int i = absurd i
type_atoms ty.Bool i = absurd i
type_atoms ty.Null i = absurd i
type_atoms ty.Void i = absurd i

-- in each state that respects the scope, a path's view stands under its bound
pub view_under : {p : Program} {s : Scope} (v : Views) → BindsFit s → Respects p v s → (q : ℕ) → Binds s q → Seen v q → Under p (view_at v q) (bound_of s q)
view_under {p} {s} v f r = scope_induct s (λ q. Seen v q → Under p (view_at v q) (bound_of s q)) f bind where
  bind : (c : Bind) → Among s c → ((x : Atom) → Among (atoms_in c.ty) x → (r k : ℕ) → x.anchor ≡ Up r k → Seen v r → Under p (view_at v r) (bound_of s r))
      → Seen v c.path → Under p (view_at v c.path) (bound_of s c.path)
  bind c m ih seen =
      let h = type_atoms c.ty (r.holds c m seen) in
      let t = (fits_whole m f).atoms h.0 in
      let o = first_of (atoms_in c.ty) t.one t.among in
      let among : Among (atoms_in c.ty) o.0 = subst (λ (xs : List Atom). Among xs o.0) (sym o.2) first in
      let i = h.1 o.0 among in
      let u = under_anchor s v o.0.anchor i.seen (ih o.0 among) in
      subst (λ (B : Path). Under p (view_at v c.path) B) (sym (bound_is m f ∙ ap (first_at (bound_of s)) o.2))
      (under_names o.0.names (view_at v c.path) i.inside.exact i.inside.super (under_exact o.0.exact u))

-- and so does an anchor's
pub value_under : {p : Program} {s : Scope} (v : Views) → BindsFit s → Respects p v s → (a : Anchor) → AnchorSeen v a
    → Under p (eval v a) (anchor_at (bound_of s) a)
value_under {p} {s} v f r a seen = under_anchor s v a seen (λ q k e n. view_under v f r q (r.bound q n) n)
