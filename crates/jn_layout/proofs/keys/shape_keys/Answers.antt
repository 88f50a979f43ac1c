use Rattle.jn_layout.specs.Keys.{shape_key}
use Rattle.jn_layout.proofs.KeyLaws.{keys_more, keys_all}
use Rattle.jn_layout.proofs.keys.shape_keys.Goals as goal

pub loop-x-preserved : goal.loop-x-preserved
loop-x-preserved c =
    keys_more shape_key c.args.bodies.now c.loop-x.x-index c.x-item.result c.loop-x-test.true c.x-item.is c.loop-x.all.items _ c.in_ok-key.key c.in_ok-key.ensures c.in_ok-push.ensures.items c.loop-x.invariant

pub returns : goal.returns
returns c = keys_all shape_key c.args.bodies.now c.loop-x.x-index c.loop-x.all.items c.loop-x-test.false c.loop-x.invariant
