use Rattle.std.proofs.Common.{refl}
use Rattle.jn_reach.proofs.Eachs.{Each-more, Each-none}
use Rattle.jn_table.proofs.Orders.{each_all}
use Rattle.jn_table.proofs.Places.{same_item}
use Rattle.jn_layout.specs.Selecting.{SelectsOwn}
use Rattle.jn_layout.proofs.selecting.own_sels.Goals as goal

pub loop-x-init : goal.loop-x-init
loop-x-init c = Each-none (SelectsOwn c.args.s.now) _ c.new-all.ensures.items

pub loop-x-preserved : goal.loop-x-preserved
loop-x-preserved c =
    rw c.in_ok-push.ensures.items
    (Each-more (SelectsOwn c.args.s.now) _ _ _ _ _ c.loop-x-test.true (same_item _ _ _ c.loop-x-test.true) c.loop-x.invariant
    (record { name_is = refl; kind_is = c.own_kind-kind.ensures }))

pub returns : goal.returns
returns c = each_all (SelectsOwn c.args.s.now) c.args.fields.now c.loop-x.all.items c.loop-x.x-index c.loop-x-test.false c.loop-x.invariant
