-- The groups of an image: how many slots each has, and of which kinds.
use Rattle.std.specs.Prelude.{◌≡◌, ◌-◌, ℕ, min, map, List, [], ◌∷◌, replicate, Option, Some, None, slice_get, slice_set}
use Rattle.jn_reach.specs.Each.{Each}
use Rattle.jn_base.specs.declared.tree.Program.{Program}
use Rattle.jn_base.specs.Paths.{Path}
use Rattle.jn_base.specs.TableRules.{DeclarationsPass}
use Rattle.jn_table.specs.declared.class.ClassId.{ClassId}
use Rattle.jn_table.specs.declared.table.Table.{Table}
use Rattle.jn_names.specs.declared.members.Members.{Members}
use Rattle.jn_sem.specs.LawsOfSlots.{FieldsPass}
use Rattle.jn_share.specs.declared.groups.Groups.{Groups}
use Rattle.jn_share.specs.declared.slots.Slots.{Slots}
use Rattle.jn_share.specs.Slots.{SaysSize}
use Rattle.jn_share.specs.Pairing.{IsAt}
use Rattle.jn_code.specs.declared.image.Image.{Image}
use Rattle.jn_code.specs.declared.image.Group.{Group}
use Rattle.jn_code.specs.declared.image.ClassRow.{ClassRow}
use Rattle.jn_code.specs.declared.image.FieldEntry.{FieldEntry}
use Rattle.jn_agree.specs.declared.selectors.Selectors.{Selectors}
use Rattle.jn_agree.specs.Naming.{Naming}
use Rattle.jn_agree.specs.Rows.{GroupsAre}
use Rattle.jn_layout.specs.Asked.{RowsAsked}
use Rattle.jn_layout.specs.RowLists.{RowsRight}
use Rattle.jn_link.specs.Start.{sel_kind}

-- ---- how many slots

-- so many slots, each of the kind of a reference
abbrev pub IsBlank : ℕ → Group → Type 0
IsBlank slots g = g.slots ≡ replicate slots 3

-- as many as the size of the class k says, which counts the object's first cell too
pub record IsBlankFor (s : Slots) (k : ℕ) (g : Group) : Type 0 where
  pub id : ClassId
  pub number : id.0 ≡ k
  pub size : ℕ
  pub told : SaysSize s id size
  pub blank : IsBlank (size - 1) g

-- ---- of which kinds

-- the kind of a slot, by that of the selector of its field: 4 counts as 3
abbrev pub slot_kind : ℕ → ℕ
slot_kind k = min k 3

abbrev pub painted_by : Option ℕ → ℕ → List ℕ → List ℕ
painted_by None slot kinds = kinds
painted_by (Some k) slot kinds = slice_set kinds slot (slot_kind k)

-- the slot of each entry has the kind of its selector
abbrev pub painted : List ℕ → List FieldEntry → List ℕ → List ℕ
painted names [] kinds = kinds
painted names (e ∷ es) kinds = painted names es (painted_by (slice_get names e.selector) e.slot kinds)

-- so have those of the row's group
abbrev pub painted_in : List ℕ → ClassRow → Option Group → List Group → List Group
painted_in names row None groups = groups
painted_in names row (Some g) groups = slice_set groups row.group (record { slots = painted names row.fields g.slots })

-- and those of each row's
abbrev pub painted_rows : List ℕ → List ClassRow → List Group → List Group
painted_rows names [] groups = groups
painted_rows names (r ∷ rs) groups = painted_rows names rs (painted_in names r (slice_get groups r.group) groups)

-- the groups with these first classes, of which each slot has the kind of its fields' selectors
pub record AreGroupsFor (s : Slots) (firsts names : List ℕ) (rows : List ClassRow) (groups : List Group) : Type 0 where
  pub blanks : List Group
  pub sized : Each (IsBlankFor s) firsts blanks
  pub painted : groups ≡ painted_rows names rows blanks

-- ---- what they are

-- Where the rows are the program's, the kinds are those of its field selectors, and the first classes are those of its
-- groups, an image with them has the groups of the program.
abbrev pub GivesGroups : Slots → (firsts names : List ℕ) → List ClassRow → List Group → Type 0
GivesGroups s firsts kinds rows groups =
    (p : Program) (t : Table) (m : Members) (g : Groups) (names : Selectors) (n : Naming) (i : Image)
    → RowsAsked p t m g s names n → RowsRight p n s rows
    → Each (λ (G : Path) (k : ℕ). IsAt t.known.items k G) n.groups firsts → kinds ≡ map sel_kind n.fields
    → DeclarationsPass p → FieldsPass p → i.classes ≡ rows → i.groups ≡ groups → GroupsAre p i n

-- Example: where the class base.Lit of a group of two classes has `int v` in slot 0, and disp.Lit has it there too and
-- `Exp e` in slot 1, the group has the slots 1 and 3.
