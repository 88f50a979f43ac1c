use Rattle.std.proofs.Common.{arith}
use Rattle.jn_reach.proofs.Rows.{Rows-more, rows_in_range}
use Rattle.jn_closure.proofs.rows.closure.Goals as goal

pub loop-start-preserved : goal.loop-start-preserved
loop-start-preserved c = record {
  long = omega (
    arith,
    c.loop-start.invariant.long,
    c.row_from.ensures.len,
    c.loop-start.marks.ok.0,
    c.row_from.new.marks.ok.0,
  );
  clear = c.in_ok-row.ensures.clear;
  rows = rw c.in_ok-push.ensures.items (Rows-more _ _ _ _ c.loop-start.invariant.rows c.in_ok-row.ensures.exact);
}

pub returns-clause-within : goal.returns-clause-within
returns-clause-within c =
    rows_in_range _ _ _ c.requires (omega (arith, c.loop-start-test.false, c.loop-start.auto.start-end))
    c.loop-start.invariant.rows
