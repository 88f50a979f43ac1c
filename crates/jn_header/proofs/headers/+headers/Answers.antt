use Rattle.std.proofs.Common.{◌∙◌, ap, ◌∷◌}
use Rattle.jn_base.specs.Paths.{Path}
use Rattle.jn_intern.proofs.Pools.{keeps_more}
use Rattle.jn_header.specs.Asked.{header_at}
use Rattle.jn_heads.proofs.Turns.{turns_more, turns_fail}
use Rattle.jn_header.proofs.Heads.{lists_refused, decl_told}
use Rattle.jn_header.proofs.headers.+headers.Goals as goal

pub judge_members-loop-m-preserved : goal.judge_members-loop-m-preserved
judge_members-loop-m-preserved t c = (
  turns_more c.args.p.now (header_at c.args.class.now) c.args.members.now c.loop-m.m-index c.loop-m.invariant.0 c.m-item.result c.loop-m-test.true c.m-item.is c.in-Ok.ensures.told,
  c.in-Ok.ensures.kept ∙ c.loop-m.invariant.1,
  keeps_more c.loop-m.invariant.2 c.in-Ok.ensures.keeps,
)

pub judge_members-returns-in-Err-clause-told : goal.judge_members-returns-in-Err-clause-told
judge_members-returns-in-Err-clause-told t c =
    turns_fail c.args.p.now (header_at c.args.class.now) c.args.members.now c.loop-m.m-index c.loop-m.invariant.0 c.m-item.result c.in-Err.fault c.loop-m-test.true c.m-item.is c.in-Err.ensures.told

pub judge_members-returns-in-Err-clause-keeps : goal.judge_members-returns-in-Err-clause-keeps
judge_members-returns-in-Err-clause-keeps t c = keeps_more c.loop-m.invariant.2 c.in-Err.ensures.keeps

pub judge_decl-returns-in-Err-clause-told : goal.judge_decl-returns-in-Err-clause-told
judge_decl-returns-in-Err-clause-told t c = lists_refused c.args.p.now c.args.d.now c.args.namespace.now c.in-Err.fault (c.in-Err.ensures c.args.p.now c.requires.filled)

pub judge_decl-returns-in_ok-push-in-Ok-clause-told : goal.judge_decl-returns-in_ok-push-in-Ok-clause-told
judge_decl-returns-in_ok-push-in-Ok-clause-told t c =
    decl_told c.args.p.now c.args.d.now c.args.namespace.now c.push.new.self _ c.judge_members.result
    (c.in_ok-push-in-Ok.ensures ∙ ap (λ (R : Path). c.args.d.now.name.name ∷ R) c.in_ok-class-in-Ok.ensures) c.as_slice.ensures
    (c.in-Ok.ensures c.args.p.now c.requires.filled) c.judge_members.ensures.told
