use Rattle.jn_check.proofs.TypeLaws.{noted_start, noted_more, noted_all}
use Rattle.jn_check.proofs.types.note_atoms.Goals as goal

pub loop-x-init : goal.loop-x-init
loop-x-init c = noted_start c.args.xs.now c.args.marks.now

pub loop-x-preserved : goal.loop-x-preserved
loop-x-preserved c =
    noted_more c.args.xs.now c.loop-x.x-index c.x-item.result c.args.marks.now c.loop-x.marks c.note_atom.new.marks c.loop-x-test.true c.x-item.is c.loop-x.invariant
    c.in_ok-note_atom.ensures

pub returns : goal.returns
returns c = noted_all c.args.xs.now c.loop-x.x-index c.args.marks.now c.loop-x.marks c.loop-x-test.false c.loop-x.invariant
