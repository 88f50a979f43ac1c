use Rattle.std.proofs.Common.{take, List, ◌<◌, Contains}
use Rattle.jn_base.specs.declared.tree.Program.{Program}
use Rattle.jn_base.specs.Paths.{Path}
use Rattle.jn_table.specs.declared.table.Table.{Table}
use Rattle.jn_table.specs.Rows.{IsNumber}
use Rattle.jn_agree.specs.Naming.{Naming}
use Rattle.jn_layout.specs.declared.pairs.Pair.{Pair}
use Rattle.jn_layout.specs.Pairs.{Gathers}
use Rattle.jn_agree.specs.declared.selectors.FieldSel.{FieldSel}
use Rattle.jn_layout.specs.Finding.{FieldsPlaced}
use Rattle.jn_layout.specs.Lookups.{FieldsAsked, FieldPair}
use Rattle.jn_layout.proofs.rows.field_pairs.Given as goal

abbrev pub invariant-loop-name : goal.invariant-loop-name
invariant-loop-name l = record {
  is : (p : Program) (t : Table) (n : Naming) (R : Path) (names : List FieldSel) → FieldsAsked p t l.m l.s names l.fields n → FieldsPlaced l.fields names l.finder → IsNumber t.known.items l.id R
      → Gathers (FieldPair p n l.s l.id R) (take l.name-index l.list) l.all.items;
  small : (x : Pair) → Contains l.all.items x → x.value < 256;
}
