use Rattle.jn_reach.proofs.Searches.{iff_true, iff_false, not_when}
use Rattle.jn_names.proofs.MemberRowProof.{lower_here, no_lower_more, no_lower}
use Rattle.jn_names.proofs.members.has_lower.Goals as goal

pub returns-then-is_lower : goal.returns-then-is_lower
returns-then-is_lower c =
    iff_true (lower_here c.args.rows.now c.args.ids.now c.args.among.now c.args.s c.loop-t.t-index record { 0 = 0 }
    c.loop-t-test.true (c.is_lower.ensures.0 c.if-is_lower.true))

pub loop-t-preserved : goal.loop-t-preserved
loop-t-preserved c =
    no_lower_more c.args.rows.now c.args.ids.now c.args.among.now c.args.s c.loop-t.t-index record { 0 = 0 }
    c.loop-t-test.true c.loop-t.invariant (not_when c.if-is_lower.false c.is_lower.ensures)

pub returns : goal.returns
returns c =
    iff_false (no_lower c.args.rows.now c.args.ids.now c.args.among.now c.args.s c.loop-t.t-index c.loop-t-test.false
    c.loop-t.invariant)
