use Rattle.std.proofs.Common.{◌≡◌, length}
use Rattle.jn_reach.proofs.Rows.{Rows}
use Rattle.jn_closure.specs.Marks.{AreClear}
use Rattle.jn_closure.proofs.rows.closure.Given as goal

abbrev pub invariant-loop-start : goal.invariant-loop-start
invariant-loop-start l = record {
  long : length l.marks.items ≡ length l.edges;
  clear : AreClear l.marks.items;
  rows : Rows l.edges l.start l.rows.items;
}
