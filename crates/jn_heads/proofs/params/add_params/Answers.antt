use Rattle.std.proofs.Common.{rules}
use Rattle.jn_intern.proofs.Pools.{keeps_more}
use Rattle.jn_heads.proofs.Parameters.{none_so_far, params_more, params_fail, params_done}
use Rattle.jn_heads.proofs.params.add_params.Goals as goal

pub loop-param-init : goal.loop-param-init
loop-param-init c = none_so_far c.args.p.now c.args.t.now c.args.pool.now c.args.at.now c.args.params.now c.requires.stands

pub loop-param-preserved : goal.loop-param-preserved
loop-param-preserved c =
    params_more c.args.p.now _ _ _ _ _ _ c.args.at.now _ _ c.args.params.now c.loop-param.param-index c.param-item.result c.loop-param-test.true c.param-item.is c.loop-param.invariant
    c.in-Ok.ensures.kept c.in-Ok.ensures.keeps c.in-Ok.ensures.told.0 c.in-Ok.ensures.told.1

pub returns-in-Err-clause-told : goal.returns-in-Err-clause-told
returns-in-Err-clause-told c =
    params_fail c.args.p.now _ _ _ _ c.add_param.new.pool c.args.at.now _ c.add_param.new.at c.args.params.now c.loop-param.param-index c.param-item.result c.in-Err.fault c.loop-param-test.true c.param-item.is c.loop-param.invariant
    c.in-Err.ensures.told

pub returns-in-Err-clause-keeps : goal.returns-in-Err-clause-keeps
returns-in-Err-clause-keeps c = keeps_more c.loop-param.invariant.keeps c.add_param.ensures.keeps

pub returns-clause-told : goal.returns-clause-told
returns-clause-told c =
    params_done c.args.p.now _ _ _ _ c.args.at.now _ c.args.params.now c.loop-param.param-index (search rules) c.loop-param.invariant
