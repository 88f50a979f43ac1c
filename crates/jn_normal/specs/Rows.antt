-- Rows of normal forms and of substitution, worked out by hand from the rules.
use Rattle.std.specs.Prelude.{◌≡◌, ℕ, List, [], ◌∷◌, map}
use Rattle.jn_base.specs.declared.tree.Name.{Name}
use Rattle.jn_base.specs.declared.types.Anchor.TheVariants.{Root, Up}
use Rattle.jn_base.specs.declared.types.Masks.{Masks}
use Rattle.jn_base.specs.declared.types.Ty.{Ty}
use Rattle.jn_base.specs.declared.types.Ty.TheVariants as ty
use Rattle.jn_base.specs.Atoms.{Atom, atom, shown_atom, no_masks}
use Rattle.jn_base.specs.Scopes.{Bind, Scope, this_bind}
use Rattle.jn_base.specs.Fits.{ScopeFits}
use Rattle.jn_sem.specs.Normal.{normal, swapped, same_path}
use Rattle.jn_sem.specs.NormalFunction.{subst_type}

abbrev pub name : ℕ → Name
name n = record { 0 = n }

-- names in the order of their numbers
abbrev pub A : Name
A = name 0

abbrev pub B : Name
B = name 1

abbrev pub C : Name
C = name 2

abbrev pub D : Name
D = name 3

abbrev pub X : Name
X = name 4

abbrev pub Y : Name
Y = name 5

abbrev pub of : List Atom → Ty
of xs = ty.Class (map shown_atom xs) no_masks

abbrev pub bind : ℕ → List Atom → Bind
bind q xs = record { path = q; ty = of xs }

-- `A.C`, `A!.C` and so on: lists of names have the innermost name first
abbrev pub inexact : Name → Name → Atom
inexact N M = atom Root [] (M ∷ N ∷ [])

abbrev pub exact : Name → Name → Atom
exact N M = atom Root (N ∷ []) (M ∷ [])

-- `p.class`, and `p.class.M`
abbrev pub class_of : ℕ → Atom
class_of p = atom (Up p 0) [] []

abbrev pub in_class : ℕ → Name → Atom
in_class p M = atom (Up p 0) [] (M ∷ [])

-- `P[p.class].M`, where P has one name less than p's bound
abbrev pub in_family : ℕ → Name → Atom
in_family p M = atom (Up p 1) [] (M ∷ [])

-- In A.C:  this, `A!.C` 1, `p1.class.X` 2, `A!.C & B!.D` 3, `A.C & B!.D` 4, `A!.B!.C` 5, `A.D` 6, `p6.class.X` 7, an int 8
abbrev pub in_c : Scope
in_c =
    record { path = 8; ty = ty.Int }
    ∷ bind 7 (in_class 6 X ∷ [])
    ∷ bind 6 (inexact A D ∷ [])
    ∷ bind 5 (atom Root (B ∷ A ∷ []) (C ∷ []) ∷ [])
    ∷ bind 4 (inexact A C ∷ exact B D ∷ [])
    ∷ bind 3 (exact A C ∷ exact B D ∷ [])
    ∷ bind 2 (in_class 1 X ∷ [])
    ∷ bind 1 (exact A C ∷ [])
    ∷ this_bind (C ∷ A ∷ [])
    ∷ []

-- a scope of `this` and p1 alone
abbrev pub in_p : Scope
in_p = bind 1 (exact A C ∷ []) ∷ this_bind (C ∷ A ∷ []) ∷ []

-- ATOMS
pub record AtomRows : Type 0 where
  -- without an anchor at a path nothing changes
  pub rooted : normal in_c (exact A X) ≡ exact A X
  -- `p1.class` stays: the type of p1 has one inexact name, and none may be taken
  pub stays : normal in_c (class_of 1) ≡ class_of 1
  -- `A[p1.class].X` is `A!.X`
  pub by_exact : normal in_c (in_family 1 X) ≡ exact A X
  -- by the first atom that has at most one inexact name, and not by the last
  pub by_first : normal in_c (in_family 3 X) ≡ exact A X
  -- the first atom of p4 has two, so it is the second
  pub by_second : normal in_c (in_family 4 X) ≡ exact B X
  -- `A[p5.class].X` takes two names off A!.B!.C: C, and then B, the last of the exact names
  pub off_exact : normal in_c (atom (Up 5 2) [] (X ∷ [])) ≡ exact A X
  -- its own exact names stand behind what is left
  pub behind : normal in_c (atom (Up 5 2) (Y ∷ []) (X ∷ [])) ≡ atom Root (Y ∷ A ∷ []) (X ∷ [])
  -- one level for X of `p6.class.X`, and one more for the class of p6; there the type of p6, `A.D`, has too many inexact names
  pub further_levels : normal in_c (atom (Up 7 2) [] (Y ∷ [])) ≡ in_family 6 Y
  -- and where none is left for the class, `p6.class.Y`
  pub no_level : normal in_c (in_family 7 Y) ≡ in_class 6 Y
  -- the same by p1 goes on: `A[p1.class].Y` is `A!.Y`
  pub again : normal in_c (atom (Up 2 2) [] (Y ∷ [])) ≡ exact A Y

-- TYPES: the atoms in order, without doubles
abbrev pub form : Ty → Ty
form t = subst_type in_c same_path t

pub record TypeRows : Type 0 where
  -- `A[p1.class].X & A!.X` is `A!.X`
  pub no_doubles : form (of (in_family 1 X ∷ exact A X ∷ [])) ≡ of (exact A X ∷ [])
  -- Root comes first, then paths by their numbers; a list of fewer exact names comes first, and then the names decide
  pub in_order : form (of (in_family 6 C ∷ in_family 0 D ∷ exact B C ∷ exact A D ∷ inexact B C ∷ inexact A C ∷ []))
      ≡ of (inexact A C ∷ inexact B C ∷ exact A D ∷ exact B C ∷ in_family 0 D ∷ in_family 6 C ∷ [])
  -- of one path, fewer levels first
  pub by_levels : form (of (in_family 0 D ∷ class_of 0 ∷ [])) ≡ of (class_of 0 ∷ in_family 0 D ∷ [])
  -- masks stay
  pub masked : (m : Masks) → form (ty.Class (shown_atom (in_family 1 X) ∷ []) m) ≡ ty.Class (shown_atom (exact A X) ∷ []) m
  -- a type without atoms stays
  pub int_stays : form ty.Int ≡ ty.Int

-- SUBSTITUTION
abbrev pub put : List ℕ → List ℕ → List Atom → Ty
put from to xs = subst_type in_c (swapped from to) (of xs)

pub record SubstRows : Type 0 where
  -- p1 for `this`: `A[this.class].D` becomes `A[p1.class].D`, which is `A!.D`
  pub normalises : put (0 ∷ []) (1 ∷ []) (in_family 0 D ∷ []) ≡ of (exact A D ∷ [])
  -- all at once: `this` and p6 change places
  pub at_once : put (0 ∷ 6 ∷ []) (6 ∷ 0 ∷ []) (in_family 0 X ∷ in_family 6 Y ∷ []) ≡ of (in_family 0 Y ∷ in_family 6 X ∷ [])
  -- other paths stay
  pub others : put (6 ∷ []) (1 ∷ []) (in_family 0 D ∷ []) ≡ of (in_family 0 D ∷ [])
  -- two paths that become one leave no double
  pub one_left : put (0 ∷ []) (6 ∷ []) (in_family 0 D ∷ in_family 6 D ∷ []) ≡ of (in_family 6 D ∷ [])

-- the scope is one that fits, and so are its types
pub record Rows : Type 0 where
  pub fits : ScopeFits in_c
  pub atoms : AtomRows
  pub types : TypeRows
  pub substs : SubstRows
