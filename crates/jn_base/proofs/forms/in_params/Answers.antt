use Rattle.jn_base.specs.Forms.{of_param}
use Rattle.jn_base.proofs.FormsFound.{found, passed, none_left}
use Rattle.jn_base.proofs.forms.in_params.Goals as goal

pub returns-then-in_type : goal.returns-then-in_type
returns-then-in_type c = found c.args.asked of_param c.args.params.now c.loop-p.p-index c.p-item.result c.in_type.result c.loop-p.invariant c.loop-p-test.true c.p-item.is c.in_type.ensures c.if-in_type.true

pub loop-p-preserved : goal.loop-p-preserved
loop-p-preserved c = passed c.args.asked of_param c.args.params.now c.loop-p.p-index c.p-item.result c.in_type.result c.loop-p.invariant c.loop-p-test.true c.p-item.is c.in_type.ensures c.if-in_type.false

pub returns : goal.returns
returns c = none_left c.args.asked of_param c.args.params.now c.loop-p.p-index c.loop-p.invariant c.loop-p-test.false
