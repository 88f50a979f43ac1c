use Rattle.std.proofs.Common.{◌∙◌, refl}
use Rattle.jn_intern.proofs.Pools.{keeps_same, keeps_more}
use Rattle.jn_reach.proofs.Eachs.{Each-none}
use Rattle.jn_header.specs.Bodies.{HeadAt}
use Rattle.jn_header.proofs.BodyRows.{one_of_all, heads_more}
use Rattle.jn_header.proofs.bodies.heads_of.Goals as goal

pub loop-m-init : goal.loop-m-init
loop-m-init c = (Each-none (HeadAt c.args.p.now c.args.class.now) _ c.new-all.ensures.items, refl, keeps_same _)

pub add_head-requires-clause-declared : goal.add_head-requires-clause-declared
add_head-requires-clause-declared c = λ x among.
    c.requires.declared x (one_of_all c.args.members.now c.loop-m.m-index c.m-item.result c.loop-m-test.true c.m-item.is x among)

pub loop-m-preserved : goal.loop-m-preserved
loop-m-preserved c = (
  heads_more c.args.p.now c.args.class.now c.args.members.now c.loop-m.m-index c.m-item.result c.loop-m.all.items c.add_head.new.out.items c.loop-m-test.true c.m-item.is c.loop-m.invariant.0
      c.in-Ok.ensures.told,
  c.in-Ok.ensures.kept ∙ c.loop-m.invariant.1,
  keeps_more c.loop-m.invariant.2 c.in-Ok.ensures.keeps,
)

pub returns-in-Err-clause-keeps : goal.returns-in-Err-clause-keeps
returns-in-Err-clause-keeps c = keeps_more c.loop-m.invariant.2 c.in-Err.ensures.keeps
