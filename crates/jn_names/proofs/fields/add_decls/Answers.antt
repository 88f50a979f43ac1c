use Rattle.jn_names.specs.FieldTypes.{fields_of_decl}
use Rattle.jn_names.proofs.FieldProof.{adds_none, adds_more, refused_at, adds_all}
use Rattle.jn_names.proofs.fields.add_decls.Goals as goal

pub loop-d-preserved : goal.loop-d-preserved
loop-d-preserved c = λ p f e.
    adds_more fields_of_decl c.args.namespace.now c.args.decls.now p c.args.t.now c.loop-d.d-index c.d-item.result
    c.args.out.now.items c.loop-d.out.items c.add_decl.new.out.items
    c.loop-d-test.true c.d-item.is (c.loop-d.invariant p f e) (c.in-Ok.ensures p f e)

pub returns-in-Err : goal.returns-in-Err
returns-in-Err c = λ p f e.
    refused_at fields_of_decl c.args.namespace.now c.args.decls.now p c.args.t.now c.loop-d.d-index c.d-item.result
    c.args.out.now.items c.loop-d.out.items c.add_decl.new.out.items c.in-Err.fault
    c.loop-d-test.true c.d-item.is (c.loop-d.invariant p f e) (c.in-Err.ensures p f e)

pub returns : goal.returns
returns c = λ p f e.
    adds_all fields_of_decl c.args.namespace.now c.args.decls.now p c.args.t.now c.loop-d.d-index c.args.out.now.items
    c.loop-d.out.items c.loop-d-test.false (c.loop-d.invariant p f e)

pub loop-d-init : goal.loop-d-init
loop-d-init c = λ p f e. adds_none p c.args.t.now c.args.out.now.items
