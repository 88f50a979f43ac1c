-- Which classes are related, by their numbers.
use Rattle.std.specs.Prelude.{◌<◌, ◌↔◌, ℕ, List, Contains, Bool, IsTrue}
use Rattle.jn_base.specs.declared.tree.Program.{Program}
use Rattle.jn_base.specs.declared.path.Path.{Path as ShownPath}
use Rattle.jn_base.specs.Paths.{Path}
use Rattle.jn_base.specs.ClassOrder.{IsFirst}
use Rattle.jn_table.specs.declared.table.Table.{Table}
use Rattle.jn_table.specs.Tables.{IsFilled}
use Rattle.jn_sem.specs.Sharing.{IsClass, Related}
use Rattle.jn_share.specs.declared.groups.Groups.{Groups}
use Rattle.jn_share.specs.declared.members.GroupMembers.{GroupMembers}
use Rattle.jn_share.specs.Groups.{AreGroups}
use Rattle.jn_share.specs.Members.{AreGroupMembers}
use Rattle.jn_share.specs.Pairing.{IsAt}
use Rattle.jn_layout.specs.declared.kin.Kin.{Kin}

-- the numbers of each group, as groups are told
abbrev pub members_of : Kin → GroupMembers
members_of kin = record { starts = kin.starts; numbers = kin.numbers }

abbrev pub AreKin : Groups → Kin → Type 0
AreKin g kin = AreGroupMembers g (members_of kin)

-- of whatever program the table and the groups are, T holds
abbrev pub OfGroups : Table → Kin → (Program → Type 0) → Type 0
OfGroups t kin T = (p : Program) (g : Groups) → IsFilled p t → AreGroups p t.known.items g → AreKin g kin → T p

-- one of the numbers is that of a class, and lower
pub record HasEarlier (p : Program) (known : List ShownPath) (numbers : List ℕ) (k : ℕ) : Type 0 where
  pub number : ℕ
  pub among : Contains numbers number
  pub lower : number < k
  pub class : Path
  pub at : IsAt known number class
  pub is_class : IsClass p class

-- k is the number of the first class of a group
pub record FirstAt (p : Program) (known : List ShownPath) (k : ℕ) : Type 0 where
  pub class : Path
  pub at : IsAt known k class
  pub first : IsFirst p (Related p class) class

-- k is the number of the first class that is related to V
pub record FirstOf (p : Program) (known : List ShownPath) (V : Path) (k : ℕ) : Type 0 where
  pub class : Path
  pub at : IsAt known k class
  pub first : IsFirst p (Related p V) class

-- of each class at k: where it is one
abbrev pub SaysClass : Table → ℕ → Bool → Type 0
SaysClass t k told = (p : Program) (R : Path) → IsFilled p t → IsAt t.known.items k R → IsTrue told ↔ IsClass p R
