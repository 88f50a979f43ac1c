use Rattle.jn_table.specs.Ups.{up_path}
use Rattle.jn_table.proofs.Maps.{mapped_more, mapped_all}
use Rattle.jn_table.proofs.near.ups_of.Goals as goal

pub loop-path-preserved : goal.loop-path-preserved
loop-path-preserved c =
    mapped_more up_path c.args.paths.now c.loop-path.path-index c.path-item.result c.in_ok-up.up _ _ c.loop-path-test.true
    c.path-item.is c.loop-path.invariant c.in_ok-up.ensures c.in_ok-push.ensures.items

pub returns : goal.returns
returns c = mapped_all up_path c.args.paths.now c.loop-path.path-index _ c.loop-path-test.false c.loop-path.invariant
