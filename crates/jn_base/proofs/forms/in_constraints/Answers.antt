use Rattle.jn_base.specs.Forms.{of_constraint}
use Rattle.jn_base.proofs.FormsFound.{found, passed, none_left}
use Rattle.jn_base.proofs.forms.in_constraints.Goals as goal

pub returns-then-in_constraint : goal.returns-then-in_constraint
returns-then-in_constraint c = found c.args.asked of_constraint c.args.constraints.now c.loop-c.c-index c.c-item.result c.in_constraint.result c.loop-c.invariant c.loop-c-test.true c.c-item.is c.in_constraint.ensures c.if-in_constraint.true

pub loop-c-preserved : goal.loop-c-preserved
loop-c-preserved c = passed c.args.asked of_constraint c.args.constraints.now c.loop-c.c-index c.c-item.result c.in_constraint.result c.loop-c.invariant c.loop-c-test.true c.c-item.is c.in_constraint.ensures c.if-in_constraint.false

pub returns : goal.returns
returns c = none_left c.args.asked of_constraint c.args.constraints.now c.loop-c.c-index c.loop-c.invariant c.loop-c-test.false
