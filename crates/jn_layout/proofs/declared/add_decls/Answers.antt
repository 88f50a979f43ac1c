use Rattle.jn_names.specs.FieldTypes.{fields_of_decl}
use Rattle.jn_agree.specs.Rows.{of_decl}
use Rattle.jn_layout.proofs.Adding.{both_none, both_more, both_all}
use Rattle.jn_layout.proofs.declared.add_decls.Goals as goal

pub loop-d-init : goal.loop-d-init
loop-d-init c = both_none c.args.t.now c.args.out.now

pub loop-d-preserved : goal.loop-d-preserved
loop-d-preserved c =
    both_more c.args.t.now of_decl fields_of_decl c.args.namespace.now c.args.decls.now c.loop-d.d-index c.d-item.result c.args.out.now c.loop-d.out c.add_decl.new.out
    c.loop-d-test.true c.d-item.is c.loop-d.invariant c.in_ok-add_decl.ensures

pub returns : goal.returns
returns c =
    both_all c.args.t.now of_decl fields_of_decl c.args.namespace.now c.args.decls.now c.loop-d.d-index c.args.out.now c.loop-d.out c.loop-d-test.false c.loop-d.invariant
