use Rattle.jn_reach.proofs.Eachs.{Each-more, Each-none}
use Rattle.jn_table.specs.Own.{NamesAt}
use Rattle.jn_table.proofs.Orders.{each_all}
use Rattle.jn_table.proofs.own.own_names.Goals as goal

pub loop-row-init : goal.loop-row-init
loop-row-init c = Each-none (NamesAt c.args.entries.now c.args.part) _ c.new-all.ensures.items

pub loop-row-preserved : goal.loop-row-preserved
loop-row-preserved c =
    rw c.in_ok-push.ensures.items
    (Each-more (NamesAt c.args.entries.now c.args.part) _ _ _ _ _
    c.loop-row-test.true c.row-item.is c.loop-row.invariant (rw c.deref.ensures.value at c.in_ok-names.ensures))

pub returns : goal.returns
returns c = each_all (NamesAt c.args.entries.now c.args.part) _ _ _ c.loop-row-test.false c.loop-row.invariant
