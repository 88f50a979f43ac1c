use Rattle.jn_table.specs.NamePlaces.{name_key}
use Rattle.jn_table.proofs.Grouped.{keys_more, keys_all}
use Rattle.jn_table.proofs.Places.{same_item}
use Rattle.jn_table.proofs.named.name_keys.Goals as goal

pub loop-name-preserved : goal.loop-name-preserved
loop-name-preserved c =
    keys_more name_key c.args.names.now c.loop-name.name-index _ c.loop-name-test.true
    (same_item _ _ _ c.loop-name-test.true)
    c.loop-name.keys.items _ c.in_ok-key.key c.in_ok-key.ensures c.in_ok-push.ensures.items c.loop-name.invariant

pub returns : goal.returns
returns c =
    keys_all name_key c.args.names.now c.loop-name.name-index c.loop-name.keys.items c.loop-name-test.false
    c.loop-name.invariant
