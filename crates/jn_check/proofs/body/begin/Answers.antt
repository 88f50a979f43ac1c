use Rattle.jn_heads.specs.Params.{header_in}
use Rattle.jn_expr.specs.Calling.{body_of}
use Rattle.jn_check.proofs.BodySteps.{begin_refused}
use Rattle.jn_check.proofs.body.begin.Goals as goal

pub returns-in-Err-clause-told : goal.returns-in-Err-clause-told
returns-in-Err-clause-told c =
    begin_refused c.args.p.now (body_of c.args.class.now c.args.m.now) (record c.args.env.now { table = c.header_of.new.t; pool = c.header_of.new.pool }) (header_in c.header_of.new.pool) c.in-Err.fault c.in-Err.ensures.told
