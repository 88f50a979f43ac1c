use Rattle.std.proofs.Common.{refl}
use Rattle.jn_table.specs.Order.{spelled_name}
use Rattle.jn_table.proofs.Maps.{mapped_more, mapped_all}
use Rattle.jn_table.proofs.order.names_of.Goals as goal

pub loop-one-preserved : goal.loop-one-preserved
loop-one-preserved c =
    mapped_more spelled_name c.args.all.now c.loop-one.one-index c.one-item.result _ _ _ c.loop-one-test.true c.one-item.is
    c.loop-one.invariant refl c.in_ok-push.ensures.items

pub returns : goal.returns
returns c = mapped_all spelled_name c.args.all.now c.loop-one.one-index _ c.loop-one-test.false c.loop-one.invariant
