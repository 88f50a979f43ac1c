use Rattle.jn_check.proofs.Walking.{body_known, body_fails}
use Rattle.jn_check.proofs.walk.check_method.Goals as goal

pub returns-in_ok-push-in-Ok-clause-told : goal.returns-in_ok-push-in-Ok-clause-told
returns-in_ok-push-in-Ok-clause-told c =
    body_known c.args.p.now c.args.class.now c.args.m.now c.in_ok-env.field-0 c.in_ok-env.ensures c.in-Ok.body c.args.out.now.items c.push.new.self.items c.in-Ok.ensures.told
    c.in_ok-push-in-Ok.ensures.items

pub returns-in-Err-clause-told : goal.returns-in-Err-clause-told
returns-in-Err-clause-told c =
    body_fails c.args.p.now c.args.class.now c.args.m.now c.in_ok-env.field-0 c.in_ok-env.ensures c.in-Err.fault c.args.out.now.items c.args.out.now.items c.in-Err.ensures.told
