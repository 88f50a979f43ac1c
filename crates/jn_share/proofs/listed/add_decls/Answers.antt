use Rattle.jn_sem.specs.NotFamily.{listed_in_decl}
use Rattle.jn_share.proofs.Walk.{adds_none, adds_more, adds_all}
use Rattle.jn_share.proofs.listed.add_decls.Goals as goal

pub loop-d-init : goal.loop-d-init
loop-d-init c = adds_none c.args.out.now.items

pub loop-d-preserved : goal.loop-d-preserved
loop-d-preserved c =
    adds_more listed_in_decl c.args.namespace.now c.args.decls.now c.loop-d.d-index c.d-item.result c.args.out.now.items c.loop-d.out.items c.add_decl.new.out.items
    c.loop-d-test.true c.d-item.is c.loop-d.invariant c.in_ok-add_decl.ensures

pub returns : goal.returns
returns c =
    adds_all listed_in_decl c.args.namespace.now c.args.decls.now c.loop-d.d-index c.args.out.now.items c.loop-d.out.items c.loop-d-test.false c.loop-d.invariant
