use Rattle.jn_table.proofs.Maps.{mapped_more, mapped_all}
use Rattle.jn_layout.specs.Shapes.{param_kind}
use Rattle.jn_layout.proofs.declared.kinds_of.Goals as goal

pub loop-x-preserved : goal.loop-x-preserved
loop-x-preserved c =
    mapped_more param_kind c.args.params.now c.loop-x.x-index c.x-item.result _ _ _ c.loop-x-test.true c.x-item.is
    c.loop-x.invariant c.kind_of.ensures c.in_ok-push.ensures.items

pub returns : goal.returns
returns c = mapped_all param_kind c.args.params.now c.loop-x.x-index _ c.loop-x-test.false c.loop-x.invariant
