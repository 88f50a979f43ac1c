use Rattle.jn_names.proofs.Notings.{mask_next, mask_end}
use Rattle.jn_names.proofs.numbering.note_masks.Goals as goal

pub loop-m-preserved : goal.loop-m-preserved
loop-m-preserved c =
    mask_next c.args.masks.now c.loop-m.out.items c.note.new.out.items _ c.loop-m.m-index
    record { name = record { 0 = 0 }; at = record { line = 0; column = 0 } } c.loop-m.invariant c.loop-m-test.true
    c.in_ok-note.ensures

pub returns : goal.returns
returns c = mask_end c.args.masks.now c.loop-m.out.items _ c.loop-m.m-index c.loop-m.invariant c.loop-m-test.false
