use Rattle.jn_base.specs.Forms.{of_stmt}
use Rattle.jn_names.proofs.Notings.{note_next, note_end}
use Rattle.jn_names.proofs.numbering.+stmt_masks.Goals as goal

pub note_body-loop-s-preserved : goal.note_body-loop-s-preserved
note_body-loop-s-preserved t c =
    note_next of_stmt c.args.body.now c.loop-s.out.items c.note_stmt.new.out.items _ c.loop-s.s-index c.s-item.result
    c.loop-s.invariant c.loop-s-test.true c.s-item.is (c.in_ok-note_stmt.ensures)

pub note_body-returns : goal.note_body-returns
note_body-returns t c =
    note_end of_stmt c.args.body.now c.loop-s.out.items _ c.loop-s.s-index c.loop-s.invariant c.loop-s-test.false
