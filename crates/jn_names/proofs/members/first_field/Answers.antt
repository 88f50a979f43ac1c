use Rattle.jn_names.proofs.MemberRowProof.{fieldless_more}
use Rattle.jn_names.proofs.members.first_field.Goals as goal

pub loop-s-preserved : goal.loop-s-preserved
loop-s-preserved c =
    fieldless_more c.args.ids.now c.args.among.now c.args.but c.loop-s.s-index record { 0 = 0 } c.loop-s-test.true
    c.loop-s.invariant (c.is_fieldless.ensures.passed c.if-not-is_fieldless.false)
