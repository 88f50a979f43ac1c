-- Of which program groups are, and what their calls say.
use Rattle.std.specs.Prelude.{◌≡◌, ◌↔◌, ◌<◌, ◌≤◌, ℕ, List, [], ◌∷◌, length, Any, Option, Some, None, slice_get, Bool, IsTrue, Result, Ok, Err}
use Rattle.std.specs.declared.vec.Vec.{Vec}
use Rattle.std.specs.declared.alloc.Global.{Global}
use Rattle.jn_reach.specs.Graph.{Graph}
use Rattle.jn_base.specs.declared.tree.Name.{Name}
use Rattle.jn_base.specs.declared.tree.Program.{Program}
use Rattle.jn_base.specs.declared.path.Path.{Path as ShownPath}
use Rattle.jn_base.specs.declared.refusal.Refusal.{Refusal}
use Rattle.jn_base.specs.Paths.{Path}
use Rattle.jn_base.specs.Universe.{InUniverse}
use Rattle.jn_table.specs.declared.class.ClassId.{ClassId}
use Rattle.jn_table.specs.Rows.{IsNumber}
use Rattle.jn_sem.specs.Sharing.{Related, Counterpart}
use Rattle.jn_sem.specs.NotFamily.{IsFirstNotFamily, AreFamilies}
use Rattle.jn_share.specs.declared.fault.ShareFault.{ShareFault}
use Rattle.jn_share.specs.declared.fault.ShareFault.TheVariants.{Refused, Memory}
use Rattle.jn_share.specs.declared.rows.GroupRow.{GroupRow}
use Rattle.jn_share.specs.declared.groups.Groups.{Groups}
use Rattle.jn_share.specs.Homes.{HomesTo}

-- the row of the number has this group, by its first number
pub record HasGroup (rows : List GroupRow) (id : ClassId) (group : ℕ) : Type 0 where
  pub row : GroupRow
  pub at : slice_get rows id.0 ≡ Some row
  pub is : row.group ≡ Some group

-- the rows of both numbers have one group
abbrev pub HaveOneGroup : List GroupRow → ClassId → ClassId → Type 0
HaveOneGroup rows a b = (group : ℕ) × HasGroup rows a group × HasGroup rows b group

-- the row of the number k has this class with this family
pub record HasClass (rows : List GroupRow) (k : ℕ) (family class : ClassId) : Type 0 where
  pub row : GroupRow
  pub at : slice_get rows k ≡ Some row
  pub own : row.own ≡ Some (record { family = family; class = class })

-- one of the numbers of the group of the number has this class with this family
pub record HasCounterpart (rows : List GroupRow) (members : Graph) (id family class : ClassId) : Type 0 where
  pub group : ℕ
  pub in_group : HasGroup rows id group
  pub numbers : Vec ℕ Global
  pub at : slice_get members group ≡ Some numbers
  pub among : Any (λ k. HasClass rows k family class) numbers.items

-- the class is the counterpart of U in the family, both by their numbers
pub record IsCounterpart (p : Program) (known : List ShownPath) (U : Path) (family class : ClassId) : Type 0 where
  pub Y : Name
  pub family_is : IsNumber known family (Y ∷ [])
  pub W : Path
  pub class_is : IsNumber known class W
  pub is : Counterpart p Y U W

-- the groups of p, whose universe is numbered so
pub record AreGroups (p : Program) (known : List ShownPath) (groups : Groups) : Type 0 where
  pub whole : (R : Path) → InUniverse p R → (id : ClassId) × IsNumber known id R
  pub low : (id : ClassId) (A : Path) (f : ℕ) → IsNumber known id A → HasGroup groups.rows.items id f → f ≤ id.0
  pub related : (a b : ClassId) (A B : Path) → IsNumber known a A → IsNumber known b B → HaveOneGroup groups.rows.items a b ↔ Related p A B
  pub counterparts : (a family class : ClassId) (A : Path) → IsNumber known a A
      → HasCounterpart groups.rows.items groups.members.items a family class ↔ IsCounterpart p known A family class
  pub homes : HomesTo p known (length known) groups.homes.items

-- the first n numbers have the first number of their group
abbrev pub StartsOf : List GroupRow → List ℕ → ℕ → Type 0
StartsOf rows parts n = (k f : ℕ) (row : GroupRow) → k < n → slice_get rows k ≡ Some row → row.group ≡ Some f → f ≤ k → slice_get parts k ≡ Some f

-- of whatever program the groups are, whether the paths A and B of the numbers are related
abbrev pub SaysRelated : Groups → ClassId → ClassId → Bool → Type 0
SaysRelated groups a b told = (p : Program) (known : List ShownPath) (A B : Path) → AreGroups p known groups → IsNumber known a A → IsNumber known b B
    → IsTrue told ↔ Related p A B

-- the counterpart of A in the family F; none where F is no single name, or A has none in it
abbrev pub CounterpartIs : Program → List ShownPath → Path → Path → Option ClassId → Type 0
CounterpartIs p known A F None = (Y : Name) (W : Path) → F ≡ Y ∷ [] → Counterpart p Y A W → ⊥
CounterpartIs p known A F (Some w) = (Y : Name) × (W : Path) × (F ≡ Y ∷ []) × IsNumber known w W × Counterpart p Y A W

abbrev pub SaysCounterpart : Groups → ClassId → ClassId → Option ClassId → Type 0
SaysCounterpart groups a family told = (p : Program) (known : List ShownPath) (A F : Path) → AreGroups p known groups → IsNumber known a A
    → IsNumber known family F → CounterpartIs p known A F told

-- No listed name is refused and these are the groups, or it is the first refusal; of want of memory nothing is said.
abbrev pub GroupsGive : Program → List ShownPath → Result Groups ShareFault → Type 0
GroupsGive p known (Ok groups) = AreFamilies p × AreGroups p known groups
GroupsGive p known (Err (Refused r)) = IsFirstNotFamily p r
GroupsGive p known (Err Memory) = Unit {0}

-- it is this refusal, or want of memory
abbrev pub RefusedOr : Refusal → Result Groups ShareFault → Type 0
RefusedOr r (Ok groups) = ⊥
RefusedOr r (Err (Refused q)) = q ≡ r
RefusedOr r (Err Memory) = Unit {0}
