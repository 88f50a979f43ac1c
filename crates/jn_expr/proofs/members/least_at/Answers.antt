use Rattle.jn_expr.proofs.Finding.{no_method}
use Rattle.jn_expr.proofs.members.least_at.Goals as goal

pub returns-in-None : goal.returns-in-None
returns-in-None c = λ p g h. no_method p c.args.table.now c.args.class.now c.args.name g.filled c.in-None.ensures.none h

pub returns-in-None-least : goal.returns-in-None-least
returns-in-None-least c = λ p g h. c.in-None-least.ensures p c.args.table.now c.args.class.now g c.in-Some.ensures.some h.0 h.1
