use Rattle.jn_base.specs.Forms.{of_expr, of_suffix, of_link}
use Rattle.jn_base.proofs.FormsFound.{found, passed, none_left}
use Rattle.jn_base.proofs.FormEquations.{at_link}
use Rattle.jn_base.proofs.forms.+expr_forms.Goals as goal

pub in_exprs-returns-then-in_expr : goal.in_exprs-returns-then-in_expr
in_exprs-returns-then-in_expr t c = found c.args.asked of_expr c.args.es.now c.loop-e.e-index c.e-item.result c.in_expr.result c.loop-e.invariant c.loop-e-test.true c.e-item.is c.in_expr.ensures c.if-in_expr.true

pub in_exprs-loop-e-preserved : goal.in_exprs-loop-e-preserved
in_exprs-loop-e-preserved t c = passed c.args.asked of_expr c.args.es.now c.loop-e.e-index c.e-item.result c.in_expr.result c.loop-e.invariant c.loop-e-test.true c.e-item.is c.in_expr.ensures c.if-in_expr.false

pub in_exprs-returns : goal.in_exprs-returns
in_exprs-returns t c = none_left c.args.asked of_expr c.args.es.now c.loop-e.e-index c.loop-e.invariant c.loop-e-test.false

pub in_suffixes-returns-then-in_suffix : goal.in_suffixes-returns-then-in_suffix
in_suffixes-returns-then-in_suffix t c = found c.args.asked of_suffix c.args.suffixes.now c.loop-s.s-index c.s-item.result c.in_suffix.result c.loop-s.invariant c.loop-s-test.true c.s-item.is c.in_suffix.ensures c.if-in_suffix.true

pub in_suffixes-loop-s-preserved : goal.in_suffixes-loop-s-preserved
in_suffixes-loop-s-preserved t c = passed c.args.asked of_suffix c.args.suffixes.now c.loop-s.s-index c.s-item.result c.in_suffix.result c.loop-s.invariant c.loop-s-test.true c.s-item.is c.in_suffix.ensures c.if-in_suffix.false

pub in_suffixes-returns : goal.in_suffixes-returns
in_suffixes-returns t c = none_left c.args.asked of_suffix c.args.suffixes.now c.loop-s.s-index c.loop-s.invariant c.loop-s-test.false

pub in_links-returns-then-in_expr : goal.in_links-returns-then-in_expr
in_links-returns-then-in_expr t c = found c.args.asked of_link c.args.links.now c.loop-l.l-index c.l-item.result c.in_expr.result c.loop-l.invariant c.loop-l-test.true c.l-item.is (rw (at_link c.l-item.result) c.in_expr.ensures) c.if-in_expr.true

pub in_links-loop-l-preserved : goal.in_links-loop-l-preserved
in_links-loop-l-preserved t c = passed c.args.asked of_link c.args.links.now c.loop-l.l-index c.l-item.result c.in_expr.result c.loop-l.invariant c.loop-l-test.true c.l-item.is (rw (at_link c.l-item.result) c.in_expr.ensures) c.if-in_expr.false

pub in_links-returns : goal.in_links-returns
in_links-returns t c = none_left c.args.asked of_link c.args.links.now c.loop-l.l-index c.loop-l.invariant c.loop-l-test.false
