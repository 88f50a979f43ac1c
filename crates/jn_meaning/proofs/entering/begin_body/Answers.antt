use Rattle.jn_meaning.proofs.Lists.{if_ok}
use Rattle.jn_meaning.proofs.CalledFrames.{begins_null, begins_foreign, begins_there}
use Rattle.std.proofs.Common.{◌∷◌, ◌++◌, [], ◌∙◌, ap, subst}
use Rattle.std.specs.Prelude.{IfOk}
use Rattle.jn_meaning.specs.Running.{Settles}
use Rattle.jn_meaning.specs.declared.frame.Frame.{Frame}
use Rattle.jn_meaning.proofs.entering.begin_body.Goals as goal

pub returns-then-has_null : goal.returns-then-has_null
returns-then-has_null c =
    let known = c.args.t.now.known.items in
    begins_null c.args.w.now.program.now known c.args.f c.args.now.now c.args.waiting.now.items c.args.h.now c.has_null.result (c.has_null.ensures known) c.if-has_null.true c.args.now.now c.args.waiting.now.items

pub returns-then-not-branch : goal.returns-then-not-branch
returns-then-not-branch c =
    let known = c.args.t.now.known.items in
    begins_foreign c.args.w.now.program.now known c.args.f c.args.now.now c.args.waiting.now.items c.args.h.now c.has_null.result (c.has_null.ensures known) c.if-has_null.false c.in_ok-all_fit.field-0 c.in_ok-all_fit.ensures c.if-not-branch.true c.args.now.now c.args.waiting.now.items

pub returns : goal.returns
returns c =
    let known = c.args.t.now.known.items in
    if_ok c.settle.result
    (λ o k. begins_there c.args.w.now.program.now known c.args.f c.args.now.now c.args.waiting.now.items c.args.h.now c.has_null.result (c.has_null.ensures known) c.if-has_null.false c.in_ok-all_fit.field-0 c.in_ok-all_fit.ensures c.if-not-branch.false
    c.push.new.self.items (c.in_ok-push.ensures.items ∙ ap (λ (x : Frame). c.args.waiting.now.items ++ x ∷ []) c.replace-below.ensures.value) o c.settle.new.now c.settle.new.waiting.items k)
    (subst (λ (x : Frame). IfOk c.settle.result (λ o. Settles x c.push.new.self.items o c.settle.new.now c.settle.new.waiting.items)) c.replace-below.ensures.after c.settle.ensures)
