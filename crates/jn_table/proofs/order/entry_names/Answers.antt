use Rattle.std.proofs.Common.{refl}
use Rattle.jn_table.specs.Order.{entry_name}
use Rattle.jn_table.proofs.Maps.{mapped_more, mapped_all}
use Rattle.jn_table.proofs.order.entry_names.Goals as goal

pub loop-entry-preserved : goal.loop-entry-preserved
loop-entry-preserved c =
    mapped_more entry_name c.args.entries.now c.loop-entry.entry-index c.entry-item.result _ _ _ c.loop-entry-test.true c.entry-item.is
    c.loop-entry.invariant refl c.in_ok-push.ensures.items

pub returns : goal.returns
returns c =
    mapped_all entry_name c.args.entries.now c.loop-entry.entry-index _ c.loop-entry-test.false c.loop-entry.invariant
