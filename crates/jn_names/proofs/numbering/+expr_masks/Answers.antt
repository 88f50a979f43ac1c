use Rattle.jn_base.specs.Forms.{of_expr, of_link, of_suffix}
use Rattle.jn_base.proofs.FormEquations.{at_link}
use Rattle.jn_names.proofs.Notings.{note_next, note_end}
use Rattle.jn_names.proofs.numbering.+expr_masks.Goals as goal

pub note_exprs-loop-e-preserved : goal.note_exprs-loop-e-preserved
note_exprs-loop-e-preserved t c =
    note_next of_expr c.args.es.now c.loop-e.out.items c.note_expr.new.out.items _ c.loop-e.e-index c.e-item.result
    c.loop-e.invariant c.loop-e-test.true c.e-item.is (c.in_ok-note_expr.ensures)

pub note_exprs-returns : goal.note_exprs-returns
note_exprs-returns t c =
    note_end of_expr c.args.es.now c.loop-e.out.items _ c.loop-e.e-index c.loop-e.invariant c.loop-e-test.false

pub note_links-loop-l-preserved : goal.note_links-loop-l-preserved
note_links-loop-l-preserved t c =
    note_next of_link c.args.links.now c.loop-l.out.items c.note_expr.new.out.items _ c.loop-l.l-index c.l-item.result
    c.loop-l.invariant c.loop-l-test.true c.l-item.is (rw (at_link c.l-item.result) c.in_ok-note_expr.ensures)

pub note_links-returns : goal.note_links-returns
note_links-returns t c =
    note_end of_link c.args.links.now c.loop-l.out.items _ c.loop-l.l-index c.loop-l.invariant c.loop-l-test.false

pub note_suffixes-loop-s-preserved : goal.note_suffixes-loop-s-preserved
note_suffixes-loop-s-preserved t c =
    note_next of_suffix c.args.suffixes.now c.loop-s.out.items c.note_suffix.new.out.items _ c.loop-s.s-index
    c.s-item.result c.loop-s.invariant c.loop-s-test.true c.s-item.is (c.in_ok-note_suffix.ensures)

pub note_suffixes-returns : goal.note_suffixes-returns
note_suffixes-returns t c =
    note_end of_suffix c.args.suffixes.now c.loop-s.out.items _ c.loop-s.s-index c.loop-s.invariant c.loop-s-test.false
