-- Atoms and types, and the path that an atom names where each path of a scope stands for a class.
use Rattle.std.specs.Prelude.{◌≡◌, ◌<◌, ◌^◌, ◌↔◌, ℕ, List, [], ◌∷◌, ◌++◌, ◌+◌, ◌/◌, ◌%◌, All, length, drop, reverse, map, get_or}
use Rattle.std.specs.Int.{bit_at}
use Rattle.jn_base.specs.declared.tree.Name.{Name}
use Rattle.jn_base.specs.declared.types.Anchor.{Anchor}
use Rattle.jn_base.specs.declared.types.Anchor.TheVariants.{Root, Up}
use Rattle.jn_base.specs.declared.types.Atom.{Atom as ShownAtom}
use Rattle.jn_base.specs.declared.types.Masks.{Masks}
use Rattle.jn_base.specs.declared.types.Ty.{Ty}
use Rattle.jn_base.specs.declared.types.Ty.TheVariants as ty
use Rattle.jn_base.specs.Paths.{Path}

-- An atom as the definitions have it, the innermost name first in both lists, as in a path.
pub record Atom : Type 0 where
  pub anchor : Anchor
  pub exact : List Name
  pub names : List Name

abbrev pub atom : Anchor → List Name → List Name → Atom
atom a es ns = record { anchor = a; exact = es; names = ns }

-- that of an atom of the code, which has the outermost name first
abbrev pub atom_of : ShownAtom → Atom
atom_of x = atom x.anchor (reverse x.exact) (reverse x.names)

-- and the atom of the code
abbrev pub shown_atom : Atom → ShownAtom
shown_atom x = record { anchor = x.anchor; exact = reverse x.exact; names = reverse x.names }

-- the atoms of a type, in its order; none where it is no class type
abbrev pub atoms_in : Ty → List Atom
atoms_in (ty.Class xs m) = map atom_of xs
atoms_in ty.Int = []
atoms_in ty.Bool = []
atoms_in ty.Null = []
atoms_in ty.Void = []

-- The path of an anchor, where `at` gives the class of each path: its bound, or its view in a state.
abbrev pub anchor_at : (ℕ → Path) → Anchor → Path
anchor_at at Root = []
anchor_at at (Up q k) = drop k (at q)

-- the exact and inexact names stand behind it
abbrev pub atom_at : (ℕ → Path) → Atom → Path
atom_at at x = x.names ++ (x.exact ++ anchor_at at x.anchor)

-- the path of a type's first atom
abbrev pub first_at : (ℕ → Path) → List Atom → Path
first_at at [] = []
first_at at (x ∷ xs) = atom_at at x

-- an anchor without n further names
abbrev pub lifted : ℕ → Anchor → Anchor
lifted n Root = Root
lifted n (Up q k) = Up q (k + n)

-- how many names an anchor takes off its path's class
abbrev pub levels : Anchor → ℕ
levels Root = 0
levels (Up q k) = k

-- x is an element of the list (a form of `Contains` that proofs can go along)
pub data Among {A : Type 0} : List A → A → Type 0 where
  first : {x : A} {xs : List A} → Among (x ∷ xs) x
  later : {x y : A} {xs : List A} → Among xs x → Among (y ∷ xs) x

-- the mask of this number is in the set
abbrev pub HasMask : Masks → ℕ → Type 0
HasMask m i = bit_at (get_or m.0 (i / 64) 0) (i % 64) ≡ 1

-- m has exactly the masks of which T holds, in four words of 64 bits
pub record MasksOf (T : ℕ → Type 0) (m : Masks) : Type 0 where
  pub words : length m.0 ≡ 4
  pub wide : All (λ w. w < 2 ^ 64) m.0
  pub each : (i : ℕ) → i < 256 → HasMask m i ↔ T i

abbrev pub no_masks : Masks
no_masks = record { 0 = 0 ∷ 0 ∷ 0 ∷ 0 ∷ [] }

-- each mask of m is one of n
abbrev pub MasksWithin : Masks → Masks → Type 0
MasksWithin m n = (i : ℕ) → HasMask m i → HasMask n i
