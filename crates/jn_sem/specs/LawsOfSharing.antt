-- What holds of families, related classes and counterparts.
use Rattle.std.specs.Prelude.{◌≡◌, Some}
use Rattle.jn_base.specs.declared.tree.Name.{Name}
use Rattle.jn_base.specs.declared.tree.Program.{Program}
use Rattle.jn_base.specs.Paths.{Path}
use Rattle.jn_sem.specs.Sharing.{IsClass, family_of, Related, Counterpart}

pub record SharingOf (p : Program) : Type 0 where
  -- to be related is an equivalence on the classes of the universe
  pub itself : (R : Path) → IsClass p R → Related p R R
  pub turned : (R S : Path) → Related p R S → Related p S R
  pub joined : (R S T : Path) → Related p R S → Related p S T → Related p R T
  -- each class is its own counterpart in its own family
  pub own : (X : Name) (R : Path) → IsClass p R → family_of R ≡ Some X → Counterpart p X R R
  -- the counterpart of R in the family Y is in Y, and R is its counterpart in its own family
  pub family : (Y : Name) (R S : Path) → Counterpart p Y R S → family_of S ≡ Some Y
  pub back : (X Y : Name) (R S : Path) → family_of R ≡ Some X → Counterpart p Y R S → Counterpart p X S R
  -- from one family to another and on to a third is as good as there at once
  pub on : (Y Z : Name) (R S T : Path) → Counterpart p Y R S → Counterpart p Z S T → Counterpart p Z R T

abbrev pub SharingLaws : Type 0
SharingLaws = (p : Program) → SharingOf p
