use Rattle.jn_names.proofs.TypeProof.{bounds_more, bound_is}
use Rattle.jn_names.proofs.types.bounds_of.Goals as goal

pub loop-x-preserved : goal.loop-x-preserved
loop-x-preserved c =
    bounds_more c.args.spot.now c.args.vars.now c.args.atoms.now c.loop-x.x-index c.x-item.result c.loop-x.bounds.items
    c.push.new.self.items c.in_ok-b.b
    c.loop-x-test.true c.x-item.is c.loop-x.invariant
    (bound_is c.args.spot.now c.args.vars.now c.x-item.result c.in_ok-class.class c.in_ok-b.b c.as_slice.result.now
    c.in_ok-class.ensures c.as_slice.ensures c.in_ok-b.ensures)
    c.in_ok-push.ensures.items
