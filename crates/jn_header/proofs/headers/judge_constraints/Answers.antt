use Rattle.std.proofs.Common.{◌∙◌}
use Rattle.jn_rules.specs.Headers.{constraint_asked}
use Rattle.jn_heads.proofs.Turns.{turns_more, turns_fail}
use Rattle.jn_header.proofs.headers.judge_constraints.Goals as goal

pub loop-constraint-preserved : goal.loop-constraint-preserved
loop-constraint-preserved c = (
  turns_more c.args.p.now (constraint_asked c.args.class.now c.args.m.now) c.args.constraints.now c.loop-constraint.constraint-index c.loop-constraint.invariant.0 c.constraint-item.result
      c.loop-constraint-test.true c.constraint-item.is c.in-Ok.ensures.told,
  c.in-Ok.ensures.kept ∙ c.loop-constraint.invariant.1,
)

pub returns-in-Err-clause-told : goal.returns-in-Err-clause-told
returns-in-Err-clause-told c =
    turns_fail c.args.p.now (constraint_asked c.args.class.now c.args.m.now) c.args.constraints.now c.loop-constraint.constraint-index c.loop-constraint.invariant.0 c.constraint-item.result c.in-Err.fault
    c.loop-constraint-test.true c.constraint-item.is c.in-Err.ensures.told
