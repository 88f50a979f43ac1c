use Rattle.std.proofs.Common.{◌≤◌, length}
use Rattle.jn_agree.specs.Naming.{Naming}
use Rattle.jn_layout.specs.Asked.{RowsAsked}
use Rattle.jn_layout.specs.RowLists.{RowsTo}
use Rattle.jn_layout.proofs.rows.class_rows.Given as goal

abbrev pub invariant-loop-k : goal.invariant-loop-k
invariant-loop-k l = record {
  below : l.k ≤ length l.t.known.items;
  right : (n : Naming) → RowsAsked l.p l.t l.m l.g l.s l.names n → RowsTo l.p n l.s l.k l.rows;
}
