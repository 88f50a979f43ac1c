-- Families that share classes: related classes, groups and counterparts.
use Rattle.std.specs.Prelude.{◌≡◌, ℕ, List, [], ◌∷◌, ◌++◌, Contains, Option, Some, None}
use Rattle.jn_reach.specs.Equivalent.{Equivalent}
use Rattle.jn_base.specs.declared.tree.Name.{Name}
use Rattle.jn_base.specs.declared.tree.Named.{Named}
use Rattle.jn_base.specs.declared.tree.Decl.{Decl}
use Rattle.jn_base.specs.declared.tree.Kind.TheVariants as kind
use Rattle.jn_base.specs.declared.tree.Program.{Program}
use Rattle.jn_base.specs.declared.types.Anchor.TheVariants.{Up}
use Rattle.jn_base.specs.declared.types.Ty.{Ty}
use Rattle.jn_base.specs.Paths.{Path, StandsAt}
use Rattle.jn_base.specs.Universe.{InUniverse}
use Rattle.jn_base.specs.Members.{HasKind}
use Rattle.jn_base.specs.Atoms.{Atom, atoms_in, Among}

-- R is a class of the universe
pub record IsClass (p : Program) (R : Path) : Type 0 where
  pub universe : InUniverse p R
  pub kind : HasKind p R kind.Class

-- ---- families

-- The family of a path is its outermost name, which stands last: that of X.t is X.
abbrev pub family_of : Path → Option Name
family_of [] = None
family_of (X ∷ []) = Some X
family_of (C ∷ (D ∷ P)) = family_of (D ∷ P)

-- X.t as Y.t: the same names, but for the outermost one
abbrev pub in_family : Name → Path → Path
in_family Y [] = []
in_family Y (X ∷ []) = Y ∷ []
in_family Y (C ∷ (D ∷ P)) = C ∷ in_family Y (D ∷ P)

-- ---- related classes

-- `Shares p R S`: a declaration says that the classes R and S are shared. Here t ++ X ∷ [] is X.t.
pub data Shares (p : Program) (R S : Path) : Type 0 where
  -- `adapts A` on X relates X.t and A.t for each nonempty t with A.t a class of the universe
  adapted : (X : Name) (A : Named) (C : Name) (t : List Name) (d : Decl) → StandsAt p (X ∷ []) d → Contains d.adapts A
      → R ≡ C ∷ (t ++ X ∷ []) → S ≡ C ∷ (t ++ A.name ∷ []) → IsClass p R → IsClass p S → Shares p R S
  -- `shares A` on the declaration X.t relates X.t and A.t
  shared : (X : Name) (A : Named) (C : Name) (t : List Name) (d : Decl) → StandsAt p R d → Contains d.shares A
      → R ≡ C ∷ (t ++ X ∷ []) → S ≡ C ∷ (t ++ A.name ∷ []) → IsClass p R → IsClass p S → Shares p R S

-- Related is the least equivalence on the classes of the universe that holds all these pairs.
pub record Related (p : Program) (R S : Path) : Type 0 where
  pub one : IsClass p R
  pub other : IsClass p S
  pub linked : Equivalent (Shares p) R S

-- A group is one of its classes of classes: the group of R is all that are related to R.
abbrev pub InGroup : Program → Path → Path → Type 0
InGroup p R S = Related p R S

-- W is the counterpart of U in the family Y: that of X.t is Y.t where the two are related, and each class is its own in
-- its own family.
pub record Counterpart (p : Program) (Y : Name) (U W : Path) : Type 0 where
  pub is : W ≡ in_family Y U
  pub related : Related p U W

-- Example: with `package base { class Lit { .. } }` and `package disp extends base adapts base { }` the classes base.Lit and
-- disp.Lit are related, and each is the other's counterpart in its family. Where `package more extends base
-- adapts base { }` is there too, all three are one group.

-- ---- types that hang on `this`

-- A type hangs on `this` where one of its atoms has an anchor Up(this, k); `this` is path 0.
pub record HangsOnThis (t : Ty) : Type 0 where
  pub atom : Atom
  pub among : Among (atoms_in t) atom
  pub levels : ℕ
  pub anchor : atom.anchor ≡ Up 0 levels

-- Example: in a class of the package base the type `Exp` is the atom of the anchor Up(this, 1) and the name Exp, and hangs on
-- `this`; `base.Exp` has the anchor Root, and doesn't.
