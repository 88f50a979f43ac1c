-- Types with their paths replaced.
use Rattle.std.proofs.Common.{◌≡◌, ◌<◌, ◌+◌, ℕ, List, [], ◌∷◌, Bool, true, false, zero, suc, nat_eq, cond, length, map, drop, get_or, All, refl, sym, ap, ◌∙◌, subst, arith, eqb-true}
use Rattle.jn_base.specs.declared.types.Anchor.{Anchor}
use Rattle.jn_base.specs.declared.types.Anchor.TheVariants.{Root, Up}
use Rattle.jn_base.specs.declared.types.Atom.{Atom as ShownAtom}
use Rattle.jn_base.specs.declared.types.Masks.{Masks}
use Rattle.jn_base.specs.declared.types.Ty.{Ty}
use Rattle.jn_base.specs.declared.types.Ty.TheVariants as ty
use Rattle.jn_base.specs.Atoms.{Atom, atom, atom_of, shown_atom, atoms_in, Among, first, later}
use Rattle.jn_base.specs.Scopes.{Scope}
use Rattle.jn_base.specs.Fits.{Anchored, AtomsFit, TypeFits}
use Rattle.jn_sem.specs.Normal.{moved_anchor, moved, swapped, MovedFits}
use Rattle.jn_sem.specs.NormalFunction.{subst_atoms, subst_type}
use Rattle.jn_sem.proofs.NormalTypes.{among_map, shown_once, atoms_back}

-- a path that is not the next one is sought behind it
swapped_past : (a b : ℕ) (from to : List ℕ) (q : ℕ) → (q ≡ a → ⊥) → swapped from to q ≡ swapped (a ∷ from) (b ∷ to) q
swapped_past a b from to q n = at (nat_eq q a) refl where
  at : (t : Bool) → nat_eq q a ≡ t → swapped from to q ≡ cond t b (swapped from to q)
  at true h = absurd (n (eqb-true q a h))
  at false h = refl

swapped_from : (from to : List ℕ) (i q d : ℕ) → i < length from → length from ≡ length to → (q ≡ get_or from i d → ⊥)
    → swapped (drop (suc i) from) (drop (suc i) to) q ≡ swapped (drop i from) (drop i to) q
swapped_from [] to i q d l e n = absurd (omega (arith, l))
swapped_from (a ∷ from) [] i q d l e n = absurd (omega (arith, e))
swapped_from (a ∷ from) (b ∷ to) zero q d l e n = swapped_past a b from to q n
swapped_from (a ∷ from) (b ∷ to) (suc i) q d l e n = swapped_from from to i q d (omega (arith, l)) (omega (arith, e)) n

pub swapped_next : (from to : List ℕ) (i q d : ℕ) → i < length from → length from ≡ length to → (q ≡ get_or from i d → ⊥)
    → swapped (drop (i + 1) from) (drop (i + 1) to) q ≡ swapped (drop i from) (drop i to) q
swapped_next from to i q d l e n =
    let next : i + 1 ≡ suc i = omega arith in
    ap (λ (j : ℕ). swapped (drop j from) (drop j to) q) next ∙ swapped_from from to i q d l e n

-- each replaced atom of a type that fits is anchored
pub moved_anchored : (s : Scope) (f : ℕ → ℕ) (xs : List ShownAtom) (m : Masks) → MovedFits s f (ty.Class xs m)
    → All (λ (x : ShownAtom). Anchored s (moved_anchor f x.anchor)) xs
moved_anchored s f xs m g k d l = (g tt).anchored (moved f (atom_of x)) (among_map (moved f) (map atom_of xs) (atom_of x) (among_map atom_of xs x here)) where
  x : ShownAtom
  x = get_or xs k d

  here : Among xs x
  here = among_at xs k d l where
    among_at : (ys : List ShownAtom) (i : ℕ) (e : ShownAtom) → i < length ys → Among ys (get_or ys i e)
    among_at [] i e h = absurd (omega (arith, h))
    among_at (y ∷ ys) zero e h = first
    among_at (y ∷ ys) (suc i) e h = later (among_at ys i e (omega (arith, h)))

-- the code's atoms make the substituted type
pub shown_type : (s : Scope) (f : ℕ → ℕ) (xs ys : List ShownAtom) (m : Masks) → map atom_of ys ≡ subst_atoms s f (map atom_of xs)
    → ty.Class ys m ≡ subst_type s f (ty.Class xs m)
shown_type s f xs ys m e =
    let zs : List Atom = subst_atoms s f (map atom_of xs) in
    ap (λ (ts : List ShownAtom). ty.Class ts m) (shown_once ys (map shown_atom zs) (e ∙ sym (atoms_back zs)))

-- nothing is replaced
moved_none : (a : Anchor) → moved_anchor (swapped [] []) a ≡ a
moved_none Root = refl
moved_none (Up q k) = refl

map_none : (xs : List Atom) → map (moved (swapped [] [])) xs ≡ xs
map_none [] = refl
map_none (x ∷ xs) = ap (λ (a : Anchor). atom a x.exact x.names ∷ map (moved (swapped [] [])) xs) (moved_none x.anchor) ∙ ap (λ (ys : List Atom). x ∷ ys) (map_none xs)

pub fits_unmoved : (s : Scope) (t : Ty) → TypeFits s t → MovedFits s (swapped [] []) t
fits_unmoved s t f c = subst (AtomsFit s) (sym (map_none (atoms_in t))) (f.atoms c)
