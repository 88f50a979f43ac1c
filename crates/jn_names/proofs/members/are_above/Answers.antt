use Rattle.jn_names.proofs.MemberRowProof.{above_more}
use Rattle.jn_names.proofs.members.are_above.Goals as goal

pub loop-s-preserved : goal.loop-s-preserved
loop-s-preserved c =
    above_more c.args.rows.now c.args.ids.now c.args.among.now c.args.a c.loop-s.s-index record { 0 = 0 }
    c.loop-s-test.true c.loop-s.invariant (c.is_above.ensures c.if-not-is_above.false)
