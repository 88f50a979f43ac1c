use Rattle.jn_table.specs.Universes.{class_id}
use Rattle.jn_table.proofs.Maps.{mapped_at, mapped_all}
use Rattle.jn_table.proofs.row.ids_of.Goals as goal

pub loop-number-preserved : goal.loop-number-preserved
loop-number-preserved c = mapped_at class_id c.args.row.now c.loop-number.number-index 0 _ _ c.loop-number-test.true c.loop-number.invariant c.in_ok-push.ensures.items

pub returns : goal.returns
returns c =
    mapped_all class_id c.args.row.now c.loop-number.number-index _ c.loop-number-test.false c.loop-number.invariant
