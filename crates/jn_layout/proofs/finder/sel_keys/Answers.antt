use Rattle.jn_layout.specs.Keys.{sel_key}
use Rattle.jn_layout.proofs.KeyLaws.{keys_more, keys_all}
use Rattle.jn_layout.proofs.finder.sel_keys.Goals as goal

pub loop-sel-preserved : goal.loop-sel-preserved
loop-sel-preserved c =
    keys_more sel_key c.args.names.now c.loop-sel.sel-index c.sel-item.result c.loop-sel-test.true c.sel-item.is c.loop-sel.all.items _ c.in_ok-key.key c.in_ok-key.ensures c.in_ok-push.ensures.items c.loop-sel.invariant

pub returns : goal.returns
returns c = keys_all sel_key c.args.names.now c.loop-sel.sel-index c.loop-sel.all.items c.loop-sel-test.false c.loop-sel.invariant
