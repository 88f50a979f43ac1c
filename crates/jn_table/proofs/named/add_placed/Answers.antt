use Rattle.jn_table.proofs.NamePlaces.{placed_all, placed_more, placed_none}
use Rattle.jn_table.proofs.Places.{same_item}
use Rattle.jn_table.proofs.named.add_placed.Goals as goal

pub loop-number-init : goal.loop-number-init
loop-number-init c = placed_none c.args.places.now c.args.row.now _

pub loop-number-preserved : goal.loop-number-preserved
loop-number-preserved c =
    rw c.in_ok-push.ensures.items
    (placed_more c.args.places.now c.args.row.now _ _ _ _ _ c.loop-number-test.true
    (c.requires _ _ c.loop-number-test.true) (same_item _ _ _ (c.requires _ _ c.loop-number-test.true))
    c.loop-number.invariant)

pub returns : goal.returns
returns c = placed_all c.args.places.now c.args.row.now _ _ _ c.loop-number-test.false c.loop-number.invariant
