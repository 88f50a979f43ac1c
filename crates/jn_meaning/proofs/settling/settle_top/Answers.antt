use Rattle.std.proofs.Common.{sym, ◌∙◌}
use Rattle.jn_reach.proofs.Searches.{not_when}
use Rattle.jn_meaning.proofs.Ends.{resumed_one, resumed_none, one_less, works, lacks_value, last_ends, awaits, goes_below}
use Rattle.jn_meaning.proofs.settling.settle_top.Goals as goal

pub returns-then-not-branch-clause-told : goal.returns-then-not-branch-clause-told
returns-then-not-branch-clause-told c =
    works c.args.now.now c.args.waiting.now.items c.is_done.new.work (not_when c.if-not-branch.true c.in_ok-is_done.ensures.done) c.in_ok-is_done.ensures.stays

pub returns-then-has_result-clause-told : goal.returns-then-has_result-clause-told
returns-then-has_result-clause-told c =
    let done = c.in_ok-is_done.ensures.done.0 c.if-not-branch.false in
    lacks_value c.args.now.now c.args.waiting.now.items done (record c.args.now.now { todo = c.is_done.new.work }) c.args.waiting.now.items (sym c.has_result.ensures ∙ c.if-has_result.true)

pub returns-then-not-resume-clause-told : goal.returns-then-not-resume-clause-told
returns-then-not-resume-clause-told c =
    let done = c.in_ok-is_done.ensures.done.0 c.if-not-branch.false in
    last_ends c.args.now.now c.args.waiting.now.items done (sym c.has_result.ensures ∙ c.if-has_result.false) c.resume.new.now c.resume.new.waiting.items (resumed_none _ _ _ c.resume.result c.resume.ensures c.if-not-resume.true)

pub returns-then-now-clause-told : goal.returns-then-now-clause-told
returns-then-now-clause-told c =
    let done = c.in_ok-is_done.ensures.done.0 c.if-not-branch.false in
    awaits c.args.now.now c.args.waiting.now.items done (sym c.has_result.ensures ∙ c.if-has_result.false) c.resume.new.now c.resume.new.waiting.items (resumed_one _ _ _ c.resume.result c.resume.ensures c.if-not-resume.false) c.if-now.true

pub returns-clause-told : goal.returns-clause-told
returns-clause-told c =
    let done = c.in_ok-is_done.ensures.done.0 c.if-not-branch.false in
    goes_below c.args.now.now c.args.waiting.now.items done (sym c.has_result.ensures ∙ c.if-has_result.false) c.resume.new.now c.resume.new.waiting.items (resumed_one _ _ _ c.resume.result c.resume.ensures c.if-not-resume.false) c.if-now.false

pub returns-clause-less : goal.returns-clause-less
returns-clause-less c = λ e. one_less c.resume.new.now c.args.waiting.now.items c.resume.new.waiting.items (resumed_one _ _ _ c.resume.result c.resume.ensures c.if-not-resume.false)
