use Rattle.std.proofs.Common.{◌∙◌}
use Rattle.jn_intern.proofs.Pools.{keeps_more}
use Rattle.jn_header.specs.Asked.{headers_in_space}
use Rattle.jn_heads.proofs.Turns.{turns_more, turns_fail}
use Rattle.jn_header.proofs.headers.judge_decls.Goals as goal

pub loop-d-preserved : goal.loop-d-preserved
loop-d-preserved c = (
  turns_more c.args.p.now (headers_in_space c.args.namespace.now) c.args.decls.now c.loop-d.d-index c.loop-d.invariant.0 c.d-item.result c.loop-d-test.true c.d-item.is c.in-Ok.ensures.told,
  c.in-Ok.ensures.kept ∙ c.loop-d.invariant.1,
  keeps_more c.loop-d.invariant.2 c.in-Ok.ensures.keeps,
)

pub returns-in-Err-clause-told : goal.returns-in-Err-clause-told
returns-in-Err-clause-told c =
    turns_fail c.args.p.now (headers_in_space c.args.namespace.now) c.args.decls.now c.loop-d.d-index c.loop-d.invariant.0 c.d-item.result c.in-Err.fault c.loop-d-test.true c.d-item.is
    c.in-Err.ensures.told

pub returns-in-Err-clause-keeps : goal.returns-in-Err-clause-keeps
returns-in-Err-clause-keeps c = keeps_more c.loop-d.invariant.2 c.in-Err.ensures.keeps
