use Rattle.jn_code.specs.Form.{IsKind}
use Rattle.jn_lower.proofs.Forming.{each_on, each_over}
use Rattle.jn_lower.proofs.formed.are_kinds.Goals as goal

pub loop-kind-preserved : goal.loop-kind-preserved
loop-kind-preserved c =
    each_on IsKind c.args.kinds.now c.loop-kind.kind-index 0 c.loop-kind.invariant c.loop-kind-test.true
    (c.if-kind-lt1.false, c.if-kind-gt3.false)

pub returns : goal.returns
returns c told =
    each_over IsKind c.args.kinds.now c.loop-kind.kind-index c.loop-kind.invariant c.loop-kind-test.false
