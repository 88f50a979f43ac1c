use Rattle.jn_base.specs.Forms.{Termed}
use Rattle.jn_base.proofs.FormsFound.{found_single, passed_single, no_single_left}
use Rattle.jn_base.proofs.forms.in_terms.Goals as goal

pub returns-then-in_term : goal.returns-then-in_term
returns-then-in_term c = found_single c.args.asked Termed c.args.terms.now c.loop-term.term-index c.term-item.result c.in_term.result c.loop-term.invariant c.loop-term-test.true c.term-item.is c.in_term.ensures c.if-in_term.true

pub loop-term-preserved : goal.loop-term-preserved
loop-term-preserved c = passed_single c.args.asked Termed c.args.terms.now c.loop-term.term-index c.term-item.result c.in_term.result c.loop-term.invariant c.loop-term-test.true c.term-item.is c.in_term.ensures c.if-in_term.false

pub returns : goal.returns
returns c = no_single_left c.args.asked Termed c.args.terms.now c.loop-term.term-index c.loop-term.invariant c.loop-term-test.false
