use Rattle.jn_meaning.proofs.Lists.{if_ok}
use Rattle.jn_meaning.proofs.Ends.{resumed_one, resumed_none, leaves_last, leaves_lacking, leaves_back}
use Rattle.std.proofs.Common.{sym, ◌∙◌}
use Rattle.jn_meaning.proofs.settling.leave.Goals as goal

pub returns-then-not-resume : goal.returns-then-not-resume
returns-then-not-resume c =
    leaves_last c.args.waiting.now.items c.args.v c.resume.new.now c.resume.new.waiting.items (resumed_none _ _ _ c.resume.result c.resume.ensures c.if-not-resume.true)

pub returns-then-lacks_result : goal.returns-then-lacks_result
returns-then-lacks_result c =
    leaves_lacking c.args.waiting.now.items c.args.v c.resume.new.now c.resume.new.waiting.items (resumed_one _ _ _ c.resume.result c.resume.ensures c.if-not-resume.false) (sym c.lacks_result.ensures ∙ c.if-lacks_result.true) c.resume.new.now c.resume.new.waiting.items

pub returns : goal.returns
returns c =
    if_ok c.settle.result
    (λ o k. leaves_back c.args.waiting.now.items c.args.v c.resume.new.now c.resume.new.waiting.items (resumed_one _ _ _ c.resume.result c.resume.ensures c.if-not-resume.false)
    (sym c.lacks_result.ensures ∙ c.if-lacks_result.false) c.give.new.f c.in_ok-give.ensures o c.settle.new.now c.settle.new.waiting.items k)
    c.settle.ensures
