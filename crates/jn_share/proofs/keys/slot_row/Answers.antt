use Rattle.std.proofs.Common.{◌+◌, take, sym, subst, false}
use Rattle.jn_reach.specs.Each.{Each}
use Rattle.jn_reach.proofs.Eachs.{Each-none, Each-more}
use Rattle.jn_share.specs.declared.field_first.FieldFirst.{FieldFirst}
use Rattle.jn_share.specs.Keys.{SlotFor}
use Rattle.jn_share.proofs.FieldEntries.{any_default}
use Rattle.jn_share.proofs.keys.slot_row.Goals as goal

pub loop-x-init : goal.loop-x-init
loop-x-init c = Each-none (SlotFor c.args.keys.now) c.new-slots.result.items c.new-slots.ensures.items

pub loop-x-preserved : goal.loop-x-preserved
loop-x-preserved c =
    let zero : FieldFirst = record { field = record { 0 = 0 }; first = 0; hangs = false } in
    subst (Each (SlotFor c.args.keys.now) (take (c.loop-x.x-index + 1) c.args.fields.now)) (sym c.in_ok-push.ensures.items)
    (Each-more (SlotFor c.args.keys.now) c.args.fields.now c.loop-x.slots.items c.loop-x.x-index _ c.slot_of.result c.loop-x-test.true (any_default c.args.fields.now c.loop-x.x-index zero _ c.loop-x-test.true) c.loop-x.invariant c.slot_of.ensures)
