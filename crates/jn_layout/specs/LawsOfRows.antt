-- When the rows of an image have no fault.
use Rattle.std.specs.Prelude.{◌≡◌, ℕ, ◌∷◌, Some, None, map, slice_get}
use Rattle.jn_base.specs.declared.tree.Program.{Program}
use Rattle.jn_table.specs.declared.table.Table.{Table}
use Rattle.jn_names.specs.declared.members.Members.{Members}
use Rattle.jn_share.specs.declared.groups.Groups.{Groups}
use Rattle.jn_share.specs.declared.slots.Slots.{Slots}
use Rattle.jn_sem.specs.Does.{Body}
use Rattle.jn_code.specs.declared.image.Image.{Image}
use Rattle.jn_code.specs.declared.image.ClassRow.{ClassRow}
use Rattle.jn_code.specs.declared.image.Code.{Code}
use Rattle.jn_code.specs.declared.image.Shape.{Shape}
use Rattle.jn_code.specs.Rows.{row_fault}
use Rattle.jn_code.specs.Valid.{rows_fault, codes_fault}
use Rattle.jn_agree.specs.declared.selectors.MethodSel.{MethodSel}
use Rattle.jn_agree.specs.declared.selectors.FieldSel.{FieldSel}
use Rattle.jn_agree.specs.declared.selectors.Selectors.{Selectors}
use Rattle.jn_agree.specs.Naming.{Naming}
use Rattle.jn_agree.specs.Rows.{GroupsAre, HasShape}
use Rattle.jn_layout.specs.Asked.{RowsAsked}
use Rattle.jn_layout.specs.RowLists.{RowsRight}

-- The code of each body stands at the body's number. It takes a reference and the kinds of the body's shape, and gives
-- the shape's result.
pub record CodesFit (p : Program) (i : Image) (n : Naming) : Type 0 where
  pub code : (k : ℕ) (b : Body) (s : Shape) → slice_get n.bodies k ≡ Some b → HasShape p b s
      → (c : Code) × (slice_get i.codes k ≡ Some c) × (c.params ≡ 3 ∷ s.params) × (c.result ≡ s.result)

-- The image has the rows that were laid out, the selectors' shapes and kinds, the groups, of which each has the kinds of
-- its slots' fields, and the codes of the bodies.
pub record IsLaidOut (p : Program) (t : Table) (m : Members) (g : Groups) (s : Slots) (names : Selectors) (n : Naming)
    (i : Image) : Type 0 where
  pub asked : RowsAsked p t m g s names n
  pub rows : RowsRight p n s i.classes
  pub shapes : map (λ (x : MethodSel). x.shape) n.methods ≡ i.methods
  pub kinds : map (λ (x : FieldSel). x.kind) n.fields ≡ i.fields
  pub groups : GroupsAre p i n
  pub codes : CodesFit p i n

-- No row of such an image has a fault, so that its first fault is one of its codes or of its start.
pub record RowsAreFaultless (i : Image) : Type 0 where
  pub each : (k : ℕ) (row : ClassRow) → slice_get i.classes k ≡ Some row → row_fault i k row ≡ None
  pub all : rows_fault i 0 i.classes ≡ codes_fault i 0 i.codes

abbrev pub LaidOutIsFaultless : Type 0
LaidOutIsFaultless =
    (p : Program) (t : Table) (m : Members) (g : Groups) (s : Slots) (names : Selectors) (n : Naming) (i : Image)
    → IsLaidOut p t m g s names n i → RowsAreFaultless i
