use Rattle.std.proofs.Common.{◌∙◌, arith, sym}
use Rattle.jn_table.proofs.Located.{first_ended, second_ended}
use Rattle.jn_table.proofs.finding.compared.Goals as goal

pub returns-then-i-b : goal.returns-then-i-b
returns-then-i-b c =
    sym
    (c.loop-i.invariant.same ∙ second_ended c.args.a.now c.args.b.now c.loop-i.i c.loop-i-test.true (omega (arith, c.if-i-b.true)))

pub returns-then-a-b : goal.returns-then-a-b
returns-then-a-b c =
    sym
    (c.loop-i.invariant.same
    ∙ first_ended c.args.a.now c.args.b.now c.loop-i.i
    (omega (arith, c.loop-i-test.false, c.loop-i.auto.i-end)) (omega (arith, c.if-a-b.true, c.loop-i-test.false, c.loop-i.auto.i-end)))
