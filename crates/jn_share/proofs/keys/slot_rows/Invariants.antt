use Rattle.std.proofs.Common.{◌≡◌, length}
use Rattle.jn_share.specs.Keys.{SlotRowsTo}
use Rattle.jn_share.proofs.keys.slot_rows.Given as goal

abbrev pub invariant-loop-k : goal.invariant-loop-k
invariant-loop-k l = record {
  long : length l.out.items ≡ l.k;
  rows : SlotRowsTo l.t l.keys l.lists.starts.items l.rows l.k l.out.items;
}
