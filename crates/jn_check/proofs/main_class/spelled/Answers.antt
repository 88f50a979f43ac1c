use Rattle.std.proofs.Common.{rules}
use Rattle.jn_check.proofs.Mains.{next_spelled}
use Rattle.jn_check.proofs.main_class.spelled.Goals as goal

pub loop-i-preserved : goal.loop-i-preserved
loop-i-preserved c =
    next_spelled c.args.p.now.names c.args.bytes.now c.loop-i.i c.text-item.result c.has_bytes.result (search rules) (search rules) c.if-has_bytes.false c.has_bytes.ensures c.loop-i.invariant
