use Rattle.jn_base.specs.Paths.{shown}
use Rattle.jn_table.proofs.Maps.{mapped_more, mapped_all}
use Rattle.jn_table.proofs.RowSteps.{shown_is}
use Rattle.jn_table.proofs.fill.known_of.Goals as goal

pub loop-path-preserved : goal.loop-path-preserved
loop-path-preserved c =
    mapped_more shown c.args.paths.now c.loop-path.path-index c.path-item.result c.in_ok-one.one _ _ c.loop-path-test.true c.path-item.is
    c.loop-path.invariant (shown_is c.in_ok-one.one c.path-item.result c.in_ok-one.ensures) c.in_ok-push.ensures.items

pub returns : goal.returns
returns c = mapped_all shown c.args.paths.now c.loop-path.path-index _ c.loop-path-test.false c.loop-path.invariant
