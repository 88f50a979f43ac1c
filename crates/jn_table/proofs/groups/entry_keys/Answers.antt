use Rattle.jn_table.specs.Groups.{entry_key}
use Rattle.jn_table.proofs.Grouped.{keys_more, keys_all}
use Rattle.jn_table.proofs.groups.entry_keys.Goals as goal

pub loop-entry-preserved : goal.loop-entry-preserved
loop-entry-preserved c =
    keys_more entry_key c.args.entries.now c.loop-entry.entry-index c.entry-item.result c.loop-entry-test.true c.entry-item.is
    c.loop-entry.keys.items _ c.in_ok-key.key c.in_ok-key.ensures c.in_ok-push.ensures.items c.loop-entry.invariant

pub returns : goal.returns
returns c =
    keys_all entry_key c.args.entries.now c.loop-entry.entry-index c.loop-entry.keys.items c.loop-entry-test.false
    c.loop-entry.invariant
