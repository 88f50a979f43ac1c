use Rattle.jn_table.specs.Level.{child_key}
use Rattle.jn_table.proofs.Grouped.{keys_more, keys_all}
use Rattle.jn_table.proofs.Places.{same_item}
use Rattle.jn_table.proofs.level.child_keys.Goals as goal

pub loop-child-preserved : goal.loop-child-preserved
loop-child-preserved c =
    keys_more child_key c.args.children.now c.loop-child.child-index _ c.loop-child-test.true
    (same_item _ _ _ c.loop-child-test.true)
    c.loop-child.keys.items _ c.in_ok-key.key c.in_ok-key.ensures c.in_ok-push.ensures.items c.loop-child.invariant

pub returns : goal.returns
returns c =
    keys_all child_key c.args.children.now c.loop-child.child-index c.loop-child.keys.items c.loop-child-test.false
    c.loop-child.invariant
