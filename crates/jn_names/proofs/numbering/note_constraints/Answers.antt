use Rattle.jn_base.specs.Forms.{of_constraint}
use Rattle.jn_names.proofs.Notings.{note_next, note_end}
use Rattle.jn_names.proofs.numbering.note_constraints.Goals as goal

pub loop-c-preserved : goal.loop-c-preserved
loop-c-preserved c =
    note_next of_constraint c.args.constraints.now c.loop-c.out.items c.note_constraint.new.out.items _ c.loop-c.c-index
    c.c-item.result c.loop-c.invariant c.loop-c-test.true c.c-item.is (c.in_ok-note_constraint.ensures)

pub returns : goal.returns
returns c =
    note_end of_constraint c.args.constraints.now c.loop-c.out.items _ c.loop-c.c-index c.loop-c.invariant
    c.loop-c-test.false
