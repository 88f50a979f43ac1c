-- The laws of supers, members, the universe and the class order.
use Rattle.std.specs.Prelude.{◌≡◌, ℕ, List, [], ◌∷◌, ◌++◌, length, drop, ◌↔◌, ◌⊎◌}
use Rattle.jn_base.specs.declared.tree.Name.{Name}
use Rattle.jn_base.specs.declared.tree.Program.{Program}
use Rattle.jn_base.specs.Paths.{Path, Declared, Extends}
use Rattle.jn_base.specs.Supers.{Direct, Sup, Member, Above}
use Rattle.jn_base.specs.Universe.{IsNamespace, InUniverse, Reach}
use Rattle.jn_base.specs.ClassOrder.{Before, HasDistinctNames, HasItsNames}

-- the direct supers of P.C, said by members
abbrev pub DirectSupers : Type 0
DirectSupers = (p : Program) (P : Path) (C : Name) (S : Path) → Direct p (C ∷ P) S ↔ Above p P C S

-- the direct supers of a top-level name are its written ones that are declared
abbrev pub TopLevel : Type 0
TopLevel = (p : Program) (A : Name) (S : Path)
    → Direct p (A ∷ []) S ↔ ((D : Name) × Extends p (A ∷ []) D × Declared p (D ∷ []) × (S ≡ D ∷ []))

-- Levels: a super has the depth of its heir, and the prefixes of a super are supers of the heir's prefixes of the same length
pub record LevelsOf (p : Program) (R S : Path) : Type 0 where
  pub depth : length S ≡ length R
  pub prefixes : (k : ℕ) → Sup p (drop k R) (drop k S)

abbrev pub Levels : Type 0
Levels = (p : Program) (R S : Path) → Sup p R S → LevelsOf p R S

-- Heirs; t ++ B is B + t, since the innermost name stands first
pub record HeirsOf (p : Program) : Type 0 where
  -- where Q.D is in Sup(P.C), P.D is in Sup(P.C)
  pub by_one : (P Q : Path) (C D : Name) → Sup p (C ∷ P) (D ∷ Q) → Sup p (C ∷ P) (D ∷ P)
  -- for B in Sup(E), lists t and t' of one length, B + t in the universe and B + t' in Sup(B + t), E + t' is in Sup(E + t)
  pub by_names : (E B : Path) (t t' : List Name) → Sup p E B → length t' ≡ length t → IsNamespace p (t ++ B)
      → Sup p (t ++ B) (t' ++ B) → Sup p (t ++ E) (t' ++ E)
  -- and B + t is in Sup(E + t)
  pub base : (E B : Path) (t : List Name) → Sup p E B → IsNamespace p (t ++ B) → Sup p (t ++ E) (t ++ B)

abbrev pub Heirs : Type 0
Heirs = (p : Program) → HeirsOf p

-- Sup is reflexive and transitive
pub record SupersOf (p : Program) : Type 0 where
  pub reflexive : (R : Path) → Sup p R R
  pub transitive : (R S T : Path) → Sup p R S → Sup p S T → Sup p R T

abbrev pub SupersChain : Type 0
SupersChain = (p : Program) → SupersOf p

-- what a super has as a member the heir has, and the super's is in Sup of the heir's
pub record Inherits (p : Program) (P Q : Path) (C : Name) : Type 0 where
  pub has : Member p P C
  pub super : Sup p (C ∷ P) (C ∷ Q)

abbrev pub MembersInherited : Type 0
MembersInherited = (p : Program) (P Q : Path) (C : Name) → Sup p P Q → Member p Q C → Inherits p P Q C

-- a super of a member is, but for its namespace, a super in the member's own namespace, and a member of both
pub record SuperIn (p : Program) (P : Path) (C : Name) (Q : Path) (D : Name) : Type 0 where
  pub namespace : Sup p P Q
  pub member : Member p Q D
  pub in_heir : Member p P D
  pub super : Sup p (C ∷ P) (D ∷ P)

abbrev pub SupersOfMembers : Type 0
SupersOfMembers = (p : Program) (P Q : Path) (C D : Name) → Member p P C → Sup p (C ∷ P) (D ∷ Q) → SuperIn p P C Q D

-- some declared path is as long as R
pub record DeclaredAsDeep (p : Program) (R : Path) : Type 0 where
  pub path : Path
  pub declared : Declared p path
  pub long : length path ≡ length R

-- the universe has all declared paths, and is closed under prefixes that have a name, and under supers
pub record UniverseOf (p : Program) : Type 0 where
  pub declared : (R : Path) → Declared p R → InUniverse p R
  pub prefixes : (P : Path) (C D : Name) → InUniverse p (D ∷ C ∷ P) → InUniverse p (C ∷ P)
  pub supers : (R S : Path) → InUniverse p R → Sup p R S → InUniverse p S
  -- so no path is longer than the longest declared one
  pub depth : (R : Path) → InUniverse p R → DeclaredAsDeep p R

abbrev pub UniverseClosed : Type 0
UniverseClosed = (p : Program) → UniverseOf p

-- Reach(q) is closed under supers, prefixes and Reach, and stays in the universe where q is in it
pub record ReachOf (p : Program) (q : Path) : Type 0 where
  pub supers : (R S : Path) → Reach p q R → Sup p R S → Reach p q S
  pub joined : (R S : Path) → Reach p q R → Reach p R S → Reach p q S
  pub universe : (R : Path) → InUniverse p q → Reach p q R → InUniverse p R

abbrev pub ReachClosed : Type 0
ReachClosed = (p : Program) (q : Path) → ReachOf p q

-- the class order is a strict total order on the paths of a program's names, where names are distinct texts
pub record OrderOf (p : Program) : Type 0 where
  pub irreflexive : (P : Path) → Before p P P → ⊥
  pub transitive : (P Q R : Path) → Before p P Q → Before p Q R → Before p P R
  pub total : HasDistinctNames p → (P Q : Path) → HasItsNames p P → HasItsNames p Q
      → (P ≡ Q) ⊎ (Before p P Q ⊎ Before p Q P)

abbrev pub StrictOrder : Type 0
StrictOrder = (p : Program) → OrderOf p
