use Rattle.jn_lower.proofs.ParamVars.{params_more, params_over}
use Rattle.jn_lower.proofs.param_vars.params_at.Goals as goal

pub loop-x-preserved : goal.loop-x-preserved
loop-x-preserved c =
    params_more c.args.t.now c.args.spot.now c.args.params.now c.loop-x.x-index c.x-item.result c.loop-x.known.list
    c.add_param.new.known.list c.loop-x-test.true c.x-item.is c.loop-x.invariant c.in_ok-add_param.ensures

pub returns : goal.returns
returns c =
    params_over c.args.t.now c.args.spot.now c.args.params.now c.loop-x.x-index c.loop-x.known.list c.loop-x-test.false
    c.loop-x.invariant
