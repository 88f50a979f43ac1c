use Rattle.jn_base.specs.Forms.{of_decl}
use Rattle.jn_names.proofs.Notings.{note_next, note_end}
use Rattle.jn_names.proofs.numbering.note_decls.Goals as goal

pub loop-d-preserved : goal.loop-d-preserved
loop-d-preserved c =
    note_next of_decl c.args.decls.now c.loop-d.out.items c.note_decl.new.out.items _ c.loop-d.d-index c.d-item.result
    c.loop-d.invariant c.loop-d-test.true c.d-item.is (c.in_ok-note_decl.ensures)

pub returns : goal.returns
returns c = note_end of_decl c.args.decls.now c.loop-d.out.items _ c.loop-d.d-index c.loop-d.invariant c.loop-d-test.false
