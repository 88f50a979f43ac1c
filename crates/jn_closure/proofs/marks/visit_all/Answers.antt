use Rattle.std.proofs.Common.{arith}
use Rattle.jn_closure.proofs.Marking.{Adds-more}
use Rattle.jn_closure.proofs.marks.visit_all.Goals as goal

pub loop-target-preserved : goal.loop-target-preserved
loop-target-preserved c = record {
  long = omega (
    arith,
    c.loop-target.invariant.long,
    c.visit.ensures.len,
    c.loop-target.marks.ok.0,
    c.visit.new.marks.ok.0,
  );
  marked = c.in_ok-visit.ensures.marks;
  added = Adds-more _ _ _ _ _ _ c.loop-target-test.true c.loop-target.invariant.added c.in_ok-visit.ensures.added;
}
