use Rattle.std.proofs.Common.{rules}
use Rattle.jn_header.proofs.AlikeLists.{not_alike}
use Rattle.jn_header.proofs.alike.are_alike.Goals as goal

pub returns-then-not-is_alike : goal.returns-then-not-is_alike
returns-then-not-is_alike c =
    not_alike c.args.xs.now c.args.ys.now c.loop-i.i c.index-xs-i.result c.index-ys-i.result c.loop-i-test.true c.index-xs-i.is c.index-ys-i.is c.is_alike.result c.is_alike.ensures (search rules)
