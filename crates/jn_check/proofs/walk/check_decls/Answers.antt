use Rattle.jn_check.specs.Walk.{plan_of_decl, bodies_of_decl}
use Rattle.jn_check.proofs.Walking.{walk_more, walk_fail, walk_done}
use Rattle.jn_check.proofs.walk.check_decls.Goals as goal

pub loop-d-preserved : goal.loop-d-preserved
loop-d-preserved c = (
  walk_more c.args.p.now (plan_of_decl c.args.namespace.now) (bodies_of_decl c.args.namespace.now) c.args.decls.now c.loop-d.d-index c.d-item.result c.args.out.now.items c.loop-d.out.items
      c.check_decl.new.out.items c.loop-d-test.true c.d-item.is c.loop-d.invariant.0 c.in-Ok.ensures.told,
  c.in-Ok.ensures.parts,
)

pub returns-in-Err-clause-told : goal.returns-in-Err-clause-told
returns-in-Err-clause-told c =
    walk_fail c.args.p.now (plan_of_decl c.args.namespace.now) (bodies_of_decl c.args.namespace.now) c.args.decls.now c.loop-d.d-index c.d-item.result c.in-Err.fault c.args.out.now.items
    c.loop-d.out.items c.check_decl.new.out.items c.loop-d-test.true c.d-item.is c.loop-d.invariant.0 c.in-Err.ensures.told

pub returns-clause-told : goal.returns-clause-told
returns-clause-told c =
    walk_done c.args.p.now (plan_of_decl c.args.namespace.now) (bodies_of_decl c.args.namespace.now) c.args.decls.now c.loop-d.d-index c.args.out.now.items c.loop-d.out.items c.loop-d-test.false
    c.loop-d.invariant.0
