use Rattle.jn_base.specs.Forms.{of_param}
use Rattle.jn_names.proofs.Notings.{note_next, note_end}
use Rattle.jn_names.proofs.numbering.note_params.Goals as goal

pub loop-p-preserved : goal.loop-p-preserved
loop-p-preserved c =
    note_next of_param c.args.params.now c.loop-p.out.items c.note_type.new.out.items _ c.loop-p.p-index c.p-item.result
    c.loop-p.invariant c.loop-p-test.true c.p-item.is (c.in_ok-note_type.ensures)

pub returns : goal.returns
returns c = note_end of_param c.args.params.now c.loop-p.out.items _ c.loop-p.p-index c.loop-p.invariant c.loop-p-test.false
