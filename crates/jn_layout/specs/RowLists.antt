-- The lists of a row, and what rows are made of.
use Rattle.std.specs.Prelude.{◌≡◌, ◌<◌, ℕ, List, All, Contains, Some, slice_get, length}
use Rattle.jn_reach.specs.Each.{Each}
use Rattle.jn_reach.specs.Graph.{Lists}
use Rattle.jn_base.specs.declared.tree.Program.{Program}
use Rattle.jn_base.specs.Paths.{Path}
use Rattle.jn_table.specs.declared.class.ClassId.{ClassId}
use Rattle.jn_table.specs.declared.table.Table.{Table}
use Rattle.jn_table.specs.Tables.{IsFilled}
use Rattle.jn_code.specs.declared.image.ClassRow.{ClassRow}
use Rattle.jn_code.specs.declared.image.MemberEntry.{MemberEntry}
use Rattle.jn_code.specs.declared.image.MethodEntry.{MethodEntry}
use Rattle.jn_code.specs.declared.image.FieldEntry.{FieldEntry}
use Rattle.jn_code.specs.declared.image.OtherEntry.{OtherEntry}
use Rattle.jn_code.specs.Form.{RowInForm}
use Rattle.jn_code.specs.Machine.{slot_in}
use Rattle.jn_names.specs.declared.members.Members.{Members}
use Rattle.jn_share.specs.declared.groups.Groups.{Groups}
use Rattle.jn_share.specs.declared.slots.Slots.{Slots}
use Rattle.jn_share.specs.Prepared.{FamiliesTo}
use Rattle.jn_agree.specs.declared.selectors.Selectors.{Selectors}
use Rattle.jn_agree.specs.Naming.{Naming}
use Rattle.jn_share.specs.Pairing.{IsAt}
use Rattle.jn_agree.specs.Rows.{RowIs, HasEntry, HasOther, FirstsAre}
use Rattle.jn_layout.specs.declared.pairs.Pair.{Pair}
use Rattle.jn_layout.specs.declared.rows.Made.{Made}
use Rattle.jn_layout.specs.declared.rows.RowPairs.{RowPairs}
use Rattle.jn_layout.specs.Kin.{AreKin, OfGroups, FirstAt}
use Rattle.jn_layout.specs.Pairs.{AreEntries}
use Rattle.jn_layout.specs.Parts.{MemberAt}
use Rattle.jn_layout.specs.Shapes.{AreDeclared}
use Rattle.jn_layout.specs.Lookups.{FieldPlace}
use Rattle.jn_layout.specs.Finding.{MethodsPlaced, FieldsPlaced}
use Rattle.jn_layout.specs.Asked.{RowsAsked}

-- the entry has the two numbers of the pair
pub record IsEntryOf {E : Type 0} (key value : E → ℕ) (x : Pair) (e : E) : Type 0 where
  pub key_is : key e ≡ x.key
  pub value_is : value e ≡ x.value

-- each pair has its numbers below these
abbrev pub FitIn : (keys values : ℕ) → List Pair → Type 0
FitIn keys values pairs = (x : Pair) → Contains pairs x → (x.key < keys) × (x.value < values)

abbrev pub AreMemberEntries : List Pair → List MemberEntry → Type 0
AreMemberEntries pairs all =
    FitIn 65536 65536 pairs → Each (IsEntryOf (λ (e : MemberEntry). e.name) (λ (e : MemberEntry). e.class)) pairs all

abbrev pub AreMethodEntries : List Pair → List MethodEntry → Type 0
AreMethodEntries pairs all = Each (IsEntryOf (λ (e : MethodEntry). e.selector) (λ (e : MethodEntry). e.code)) pairs all

abbrev pub AreFieldEntries : List Pair → List FieldEntry → Type 0
AreFieldEntries pairs all =
    FitIn 4294967296 256 pairs → Each (IsEntryOf (λ (e : FieldEntry). e.selector) (λ (e : FieldEntry). e.slot)) pairs all

abbrev pub AreOtherEntries : List Pair → List OtherEntry → Type 0
AreOtherEntries pairs all =
    FitIn 65536 65536 pairs → Each (IsEntryOf (λ (e : OtherEntry). e.family) (λ (e : OtherEntry). e.class)) pairs all

-- what the rows of all classes are made of
pub record IsMade (p : Program) (t : Table) (g : Groups) (names : Selectors) (made : Made) : Type 0 where
  pub kin : AreKin g made.kin
  pub families : (q : Program) → IsFilled q t → FamiliesTo t.known.items (length t.known.items) made.families.items
  pub firsts : OfGroups t made.kin (λ q. Lists (FirstAt q t.known.items) made.firsts.items)
  pub declared : AreDeclared p t made.declared
  pub methods : MethodsPlaced made.declared.bodies.items names.methods made.finder
  pub fields : FieldsPlaced made.declared.fields.items names.fields made.finder

-- the pairs of the row of R
pub record ArePairs (p : Program) (n : Naming) (s : Slots) (id : ClassId) (R : Path) (all : RowPairs) : Type 0 where
  pub members : AreEntries (MemberAt n R) all.members.items
  pub methods : AreEntries (HasEntry p n R) all.methods.items
  pub fields : AreEntries (FieldPlace p n s id R) all.fields.items
  pub others : AreEntries (HasOther p n R) all.others.items
  pub small : (x : Pair) → Contains all.fields.items x → x.value < 256

-- The row is that of R, and in form; the slot of each field is that of the slots at the number of R.
pub record RowRight (p : Program) (n : Naming) (s : Slots) (id : ClassId) (R : Path) (row : ClassRow) : Type 0 where
  pub is : RowIs p n R row
  pub in_form : RowInForm row
  pub slots : (f m : ℕ) → slot_in row f ≡ Some m → FieldPlace p n s id R f m

-- of whatever program the parts are
abbrev pub OfRows : Table → Members → Groups → Slots → Selectors → (Program → Naming → Type 0) → Type 0
OfRows t m g s names T = (p : Program) (n : Naming) → RowsAsked p t m g s names n → T p n

-- The rows are those of the classes in their order, and in form; and in each the slot of a field is that of the slots.
pub record RowsRight (p : Program) (n : Naming) (s : Slots) (rows : List ClassRow) : Type 0 where
  pub rows_are : Each (RowIs p n) n.classes rows
  pub in_form : All RowInForm rows
  pub slots : (k f m : ℕ) (R : Path) (row : ClassRow) → slice_get n.classes k ≡ Some R → slice_get rows k ≡ Some row
      → slot_in row f ≡ Some m → FieldPlace p n s (record { 0 = k }) R f m

-- the first ones are
pub record RowsTo (p : Program) (n : Naming) (s : Slots) (k : ℕ) (rows : List ClassRow) : Type 0 where
  pub long : length rows ≡ k
  pub each : (j : ℕ) (R : Path) (row : ClassRow) → slice_get n.classes j ≡ Some R → slice_get rows j ≡ Some row
      → RowRight p n s (record { 0 = j }) R row

-- the numbers are those of the first classes of all groups, in class order
abbrev pub FirstsListed : Program → Table → List ℕ → Type 0
FirstsListed p t firsts =
    (gs : List Path) × FirstsAre p gs × Each (λ (G : Path) (k : ℕ). IsAt t.known.items k G) gs firsts
