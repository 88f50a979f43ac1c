-- The parts of a row.
use Rattle.std.specs.Prelude.{◌≡◌, ℕ, List, ◌∷◌, Some, slice_get, map, length}
use Rattle.jn_base.specs.declared.tree.Name.{Name}
use Rattle.jn_base.specs.declared.tree.Program.{Program}
use Rattle.jn_base.specs.Paths.{Path, shown}
use Rattle.jn_table.specs.declared.class.RowMember.{RowMember}
use Rattle.jn_table.specs.declared.table.Table.{Table}
use Rattle.jn_table.specs.Tables.{IsFilled}
use Rattle.jn_share.specs.Prepared.{FamiliesTo}
use Rattle.jn_agree.specs.Naming.{Naming}
use Rattle.jn_agree.specs.Rows.{HasOther}
use Rattle.jn_share.specs.declared.groups.Groups.{Groups}
use Rattle.jn_share.specs.Groups.{AreGroups}
use Rattle.jn_layout.specs.declared.pairs.Pair.{Pair}
use Rattle.jn_layout.specs.declared.kin.Kin.{Kin}
use Rattle.jn_layout.specs.Kin.{AreKin}

-- the classes are numbered as the table numbers them
abbrev pub AreClassesOf : Table → Naming → Type 0
AreClassesOf t n = t.known.items ≡ map shown n.classes

-- class k is the member of R of the name of that number
pub record MemberAt (n : Naming) (R : Path) (c k : ℕ) : Type 0 where
  pub name : Name
  pub is : c ≡ name.0
  pub class : slice_get n.classes k ≡ Some (name ∷ R)

abbrev pub member_pair : RowMember → Pair
member_pair m = record { key = m.name.0; value = m.id.0 }

-- the pair is that of the class j, which is the counterpart of R in another family
pub record OtherPair (p : Program) (n : Naming) (R : Path) (j : ℕ) (x : Pair) : Type 0 where
  pub class : x.value ≡ j
  pub other : HasOther p n R x.key x.value

-- of each table whose universe is filled and whose families these are
abbrev pub OfFamilies : Table → List ℕ → (Program → Naming → Type 0) → Type 0
OfFamilies t families T =
    (p : Program) (n : Naming) → IsFilled p t → AreClassesOf t n
    → FamiliesTo t.known.items (length t.known.items) families → T p n

-- of each program of which table, groups and families are
abbrev pub OfKin : Table → Kin → List ℕ → (Program → Naming → Type 0) → Type 0
OfKin t kin families T =
    (p : Program) (g : Groups) (n : Naming) → IsFilled p t → AreGroups p t.known.items g → AreKin g kin
    → AreClassesOf t n
    → FamiliesTo t.known.items (length t.known.items) families → T p n
