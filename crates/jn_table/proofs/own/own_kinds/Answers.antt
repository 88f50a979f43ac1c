use Rattle.jn_reach.proofs.Eachs.{Each-more, Each-none}
use Rattle.jn_table.specs.Own.{KindsAt}
use Rattle.jn_table.proofs.Orders.{each_all}
use Rattle.jn_table.proofs.own.own_kinds.Goals as goal

pub loop-row-init : goal.loop-row-init
loop-row-init c = Each-none (KindsAt c.args.entries.now c.args.kind) _ c.new-all.ensures.items

pub loop-row-preserved : goal.loop-row-preserved
loop-row-preserved c =
    rw c.in_ok-push.ensures.items
    (Each-more (KindsAt c.args.entries.now c.args.kind) _ _ _ _ _
    c.loop-row-test.true c.row-item.is c.loop-row.invariant (rw c.deref.ensures.value at c.has_kind.ensures))

pub returns : goal.returns
returns c = each_all (KindsAt c.args.entries.now c.args.kind) _ _ _ c.loop-row-test.false c.loop-row.invariant
