-- The verdict grants what the rows of an image ask, and that its lists are no longer than the program's.
use Rattle.std.specs.Prelude.{◌≤◌, ℕ, List, All, length, map}
use Rattle.jn_base.specs.declared.tree.Program.{Program}
use Rattle.jn_base.specs.Spelling.{IsTextOf}
use Rattle.jn_table.specs.declared.table.Table.{Table}
use Rattle.jn_names.specs.declared.members.Members.{Members}
use Rattle.jn_rules.specs.Members.{TooManyEntries}
use Rattle.jn_rules.specs.Verdict.{TreePasses}
use Rattle.jn_share.specs.declared.groups.Groups.{Groups}
use Rattle.jn_share.specs.declared.slots.Slots.{Slots}
use Rattle.jn_code.specs.declared.image.ClassRow.{ClassRow}
use Rattle.jn_code.specs.Form.{ShapeInForm, IsFieldKind}
use Rattle.jn_agree.specs.declared.selectors.Selectors.{Selectors}
use Rattle.jn_agree.specs.Naming.{Naming}
use Rattle.jn_agree.specs.Rows.{SelectorsAre, bodies_of}
use Rattle.jn_size_laws.specs.Sizes.{total}
use Rattle.jn_size_laws.specs.Files.{shape_bytes, head_bytes, fields_of, entries}
use Rattle.jn_layout.specs.Asked.{Typed, RowsAsked}
use Rattle.jn_layout.specs.RowLists.{RowsRight}
use Rattle.jn_layout.specs.Selecting.{SelectorsOnly}
use Rattle.jn_link.specs.Start.{sel_shape, sel_kind}

-- Of each accepted source: each body has a shape and each declared field a type, what is looked for is found once, only
-- classes have fields, and each body stands once.
abbrev pub VerdictGrantsRows : Type 0
VerdictGrantsRows = (p : Program) (bytes : List ℕ) → IsTextOf p bytes → TreePasses p → Typed p

-- The selectors take no more bytes than one for each method and one for each field, and are in form.
pub record SelectorsFit (p : Program) (names : Selectors) : Type 0 where
  pub methods : total (map shape_bytes (map sel_shape names.methods)) ≤ total (map head_bytes (bodies_of p))
  pub fields : length names.fields ≤ fields_of p
  pub shapes : All ShapeInForm (map sel_shape names.methods)
  pub kinds : All IsFieldKind (map sel_kind names.fields)

abbrev pub SelectorsAreFew : Type 0
SelectorsAreFew =
    (p : Program) (bytes : List ℕ) → IsTextOf p bytes → TreePasses p → (names : Selectors)
    → SelectorsAre p names.methods names.fields → SelectorsOnly p names.methods names.fields → SelectorsFit p names

-- The rows have no more entries than the program may have.
abbrev pub EntriesAreFew : Type 0
EntriesAreFew =
    (p : Program) (t : Table) (m : Members) (g : Groups) (s : Slots) (names : Selectors) (n : Naming)
    → RowsAsked p t m g s names n → (rows : List ClassRow) → RowsRight p n s rows → (TooManyEntries p → ⊥)
    → total (map entries rows) ≤ 1048576
