use Rattle.std.proofs.Common.{rules, refl}
use Rattle.jn_base.specs.Duplicates.{param_name}
use Rattle.jn_header.proofs.TwiceSteps.{left_first, left_hit, left_next, left_none, params_more, params_all}
use Rattle.jn_header.proofs.twice.in_params.Goals as goal

pub loop-param-init : goal.loop-param-init
loop-param-init c = (refl, λ S same. left_first param_name S c.args.params.now _ same)

pub returns-then-has_name-clause-found : goal.returns-then-has_name-clause-found
returns-then-has_name-clause-found c = λ S same. left_hit param_name S c.args.params.now _ c.param-item.result _ (c.loop-param.invariant.1 S same) c.loop-param-test.true c.param-item.is (search rules)

pub loop-param-preserved : goal.loop-param-preserved
loop-param-preserved c = (
  params_more c.args.params.now c.loop-param.param-index c.param-item.result _ _ _ c.loop-param-test.true c.param-item.is c.loop-param.invariant.0 c.in_ok-push.ensures.items,
  λ S same. left_next param_name S c.args.params.now c.loop-param.param-index c.param-item.result _ _ (c.loop-param.invariant.1 S same) c.loop-param-test.true c.param-item.is (search rules) c.in_ok-push.ensures.items,
)

pub returns-clause-found : goal.returns-clause-found
returns-clause-found c = λ S same. left_none param_name S c.args.params.now _ _ (c.loop-param.invariant.1 S same) (search rules)

pub returns-clause-bound : goal.returns-clause-bound
returns-clause-bound c = params_all c.args.params.now _ _ _ c.loop-param.invariant.0 (search rules)
