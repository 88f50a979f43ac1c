use Rattle.jn_table.specs.Places.{name_number}
use Rattle.jn_table.proofs.Maps.{mapped_at, mapped_all}
use Rattle.jn_table.proofs.route.numbers_of.Goals as goal

pub loop-name-preserved : goal.loop-name-preserved
loop-name-preserved c =
    mapped_at name_number c.args.names.now c.loop-name.name-index _ _ _ c.loop-name-test.true c.loop-name.invariant c.in_ok-push.ensures.items

pub returns : goal.returns
returns c = mapped_all name_number c.args.names.now c.loop-name.name-index _ c.loop-name-test.false c.loop-name.invariant
