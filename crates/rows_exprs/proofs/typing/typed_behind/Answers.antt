use Rattle.std.proofs.Common.{arith}
use Rattle.jn_expr.specs.Envs.{parts}
use Rattle.rows_exprs.proofs.Parts.{parts_with, first_scope, place_there}
use Rattle.rows_exprs.proofs.typing.typed_behind.Goals as goal

pub value_of-requires-clause-parts : goal.value_of-requires-clause-parts
value_of-requires-clause-parts c = parts_with c.args.p.now (parts c.args.env.now) _ c.requires.parts

pub value_of-requires-clause-scope : goal.value_of-requires-clause-scope
value_of-requires-clause-scope c = first_scope c.args.p.now c.args.env.now.pool c.args.at c.requires.stands (omega (arith, c.if-len-gt255.false, c.len.ensures))

pub value_of-requires-clause-there : goal.value_of-requires-clause-there
value_of-requires-clause-there c = place_there c.args.p.now c.args.class.now c.args.m.now c.args.env.now.pool c.args.at c.requires.stands c.requires.within
