use Rattle.std.proofs.Common.{◌≡◌, length}
use Rattle.jn_base.specs.declared.tree.Program.{Program}
use Rattle.jn_table.specs.Tables.{IsFilled}
use Rattle.jn_share.specs.Prepared.{FamiliesTo}
use Rattle.jn_share.specs.Rows.{GroupRowsTo}
use Rattle.jn_share.proofs.rows.rows_of.Given as goal

abbrev pub invariant-loop-k : goal.invariant-loop-k
invariant-loop-k l = record {
  long : length l.rows.items ≡ l.k;
  rows : (p : Program) → IsFilled p l.t → FamiliesTo l.t.known.items (length l.t.known.items) l.families → GroupRowsTo p l.t.known.items l.firsts l.k l.rows.items;
}
