use Rattle.std.proofs.Common.{ap, length}
use Rattle.jn_expr.specs.Envs.{here_at}
use Rattle.jn_expr.specs.Calling.{body_of}
use Rattle.jn_expr.proofs.CallDepths.{super_call_fits, begins_call, begun_count}
use Rattle.jn_expr.proofs.SuperSteps.{super_fault, super_entered}
use Rattle.jn_expr.proofs.supers.enter_super.Goals as goal

pub returns-in-Err-clause-told : goal.returns-in-Err-clause-told
returns-in-Err-clause-told c = λ es s e.
    super_fault c.args.p.now (here_at c.args.class.now c.args.m.now c.args.env.now.vars.list) c.args.name.now es s (body_of c.args.owner.now c.args.method.now) c.args.count e
    c.args.env.now.marks c.enter.new.env.marks c.enter.new.env.pool c.in-Err.fault c.in-Err.ensures.told c.enter.new.env.marks

pub returns-in_ok-call-in-Ok-clause-told : goal.returns-in_ok-call-in-Ok-clause-told
returns-in_ok-call-in-Ok-clause-told c = λ es s e.
    super_entered c.args.p.now (here_at c.args.class.now c.args.m.now c.args.env.now.vars.list) c.args.name.now es s (body_of c.args.owner.now c.args.method.now) c.args.count e
    c.args.env.now.marks c.enter.new.env.marks c.enter.new.env.pool c.in-Ok.header c.in_ok-call-in-Ok.call c.in_ok-call-in-Ok.ensures c.in-Ok.ensures.told

pub returns-in_ok-call-in-Ok-clause-begun : goal.returns-in_ok-call-in-Ok-clause-begun
returns-in_ok-call-in-Ok-clause-begun c = ap length c.in_ok-call-in-Ok.ensures.paths

pub returns-in_ok-call-in-Ok-clause-fits : goal.returns-in_ok-call-in-Ok-clause-fits
returns-in_ok-call-in-Ok-clause-fits c = λ s there deep.
    super_call_fits c.args.p.now c.enter.new.env.pool s (body_of c.args.owner.now c.args.method.now) c.in-Ok.header c.in_ok-call-in-Ok.call c.in-Ok.ensures.fits
    (begins_call c.enter.new.env.pool c.in-Ok.header 0 c.in_ok-call-in-Ok.call c.in-Ok.ensures.number c.in_ok-call-in-Ok.ensures) c.in_ok-call-in-Ok.ensures there deep

pub returns-in_ok-call-in-Ok-clause-count : goal.returns-in_ok-call-in-Ok-clause-count
returns-in_ok-call-in-Ok-clause-count c = begun_count c.in-Ok.header 0 c.args.count c.in_ok-call-in-Ok.call c.in_ok-call-in-Ok.ensures c.in-Ok.ensures.count
