use Rattle.std.proofs.Common.{◌∙◌, refl, subst, sym, List, take, ◌+◌}
use Rattle.jn_reach.specs.Each.{Each}
use Rattle.jn_reach.proofs.Eachs.{Each-none, Each-more}
use Rattle.jn_heads.specs.declared.sides.Pledge.{Pledge}
use Rattle.jn_heads.specs.Sides.{IsPledge}
use Rattle.jn_rules.specs.Plans.{Nothing}
use Rattle.jn_header.proofs.BodyRows.{pledge_memory}
use Rattle.jn_header.proofs.bodies.pledges_of.Goals as goal

pub loop-constraint-init : goal.loop-constraint-init
loop-constraint-init c = (Each-none (IsPledge c.args.p.now c.args.class.now c.args.method) _ c.new-all.ensures.items, refl)

pub loop-constraint-preserved : goal.loop-constraint-preserved
loop-constraint-preserved c = (
  subst (λ (ks : List Pledge). Each (IsPledge c.args.p.now c.args.class.now c.args.method) (take (c.loop-constraint.constraint-index + 1) c.args.constraints.now) ks)
      (sym c.in_ok-push-in-Ok.ensures.items)
      (Each-more (IsPledge c.args.p.now c.args.class.now c.args.method) c.args.constraints.now c.loop-constraint.all.items c.loop-constraint.constraint-index c.constraint-item.result c.in-Ok.pledge
      c.loop-constraint-test.true c.constraint-item.is c.loop-constraint.invariant.0 c.in-Ok.ensures.told),
  c.in-Ok.ensures.kept ∙ c.loop-constraint.invariant.1,
)

pub returns-in-Err-clause-told : goal.returns-in-Err-clause-told
returns-in-Err-clause-told c =
    pledge_memory c.args.p.now c.args.t.now c.args.masks.now c.requires.judged (λ (u : Nothing). Nothing) c.args.class.now c.args.method c.args.constraints.now c.requires.declared c.loop-constraint.constraint-index
    c.constraint-item.result c.loop-constraint-test.true c.constraint-item.is c.in-Err.fault c.in-Err.ensures.told
