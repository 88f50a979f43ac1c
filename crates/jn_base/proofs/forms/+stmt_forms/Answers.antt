use Rattle.jn_base.specs.Forms.{of_stmt}
use Rattle.jn_base.proofs.FormsFound.{found, passed, none_left}
use Rattle.jn_base.proofs.forms.+stmt_forms.Goals as goal

pub in_body-returns-then-in_stmt : goal.in_body-returns-then-in_stmt
in_body-returns-then-in_stmt t c = found c.args.asked of_stmt c.args.body.now c.loop-s.s-index c.s-item.result c.in_stmt.result c.loop-s.invariant c.loop-s-test.true c.s-item.is c.in_stmt.ensures c.if-in_stmt.true

pub in_body-loop-s-preserved : goal.in_body-loop-s-preserved
in_body-loop-s-preserved t c = passed c.args.asked of_stmt c.args.body.now c.loop-s.s-index c.s-item.result c.in_stmt.result c.loop-s.invariant c.loop-s-test.true c.s-item.is c.in_stmt.ensures c.if-in_stmt.false

pub in_body-returns : goal.in_body-returns
in_body-returns t c = none_left c.args.asked of_stmt c.args.body.now c.loop-s.s-index c.loop-s.invariant c.loop-s-test.false
