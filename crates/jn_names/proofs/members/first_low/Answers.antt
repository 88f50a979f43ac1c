use Rattle.jn_names.proofs.MemberRowProof.{passed_more}
use Rattle.jn_names.proofs.members.first_low.Goals as goal

pub loop-s-preserved : goal.loop-s-preserved
loop-s-preserved c =
    passed_more c.args.rows.now c.args.ids.now c.args.among.now c.args.but c.loop-s.s-index record { 0 = 0 }
    c.loop-s-test.true c.loop-s.invariant (c.is_passed.ensures.passed c.if-not-is_passed.false)
