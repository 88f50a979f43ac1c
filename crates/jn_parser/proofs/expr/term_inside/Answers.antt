use Rattle.std.proofs.Common.{rules}
use Rattle.jn_parser.proofs.Loops.{level_none, level_some}
use Rattle.jn_parser.proofs.expr.term_inside.Goals as goal

pub returns-then-left-eq0 : goal.returns-then-left-eq0
returns-then-left-eq0 c = rw (level_none c.args.left c.if-left-eq0.true) (search rules)

pub returns : goal.returns
returns c = rw (level_some c.args.left c.if-left-eq0.false) (search rules)
