use Rattle.jn_expr.proofs.Finding.{no_field}
use Rattle.jn_expr.proofs.members.field_from.Goals as goal

pub returns-in-None : goal.returns-in-None
returns-in-None c = λ p g h. no_field p c.args.table.now c.args.class.now c.args.name g.filled c.in-None.ensures.none h

pub returns-in-None-field : goal.returns-in-None-field
returns-in-None-field c = λ p g h. c.in-None-field.ensures p c.args.table.now c.args.class.now g c.in-Some.ensures.some h.at h.declares
