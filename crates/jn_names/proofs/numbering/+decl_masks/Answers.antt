use Rattle.jn_base.specs.Forms.{of_member}
use Rattle.jn_names.proofs.Notings.{note_next, note_end}
use Rattle.jn_names.proofs.numbering.+decl_masks.Goals as goal

pub note_members-loop-m-preserved : goal.note_members-loop-m-preserved
note_members-loop-m-preserved t c =
    note_next of_member c.args.members.now c.loop-m.out.items c.note_member.new.out.items _ c.loop-m.m-index
    c.m-item.result c.loop-m.invariant c.loop-m-test.true c.m-item.is (c.in_ok-note_member.ensures)

pub note_members-returns : goal.note_members-returns
note_members-returns t c =
    note_end of_member c.args.members.now c.loop-m.out.items _ c.loop-m.m-index c.loop-m.invariant c.loop-m-test.false
