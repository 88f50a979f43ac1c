use Rattle.std.proofs.Common.{◌∙◌, sym, ap, ℕ}
use Rattle.jn_sem.specs.Acts as acts
use Rattle.jn_meaning.specs.Work.{todo_in}
use Rattle.jn_meaning.proofs.Steps.{decides}
use Rattle.jn_meaning.proofs.plain.decide.Goals as goal

pub returns-then-same_truth : goal.returns-then-same_truth
returns-then-same_truth c =
    let f = c.args.f.now in
    decides f c.in-Some.v c.pop.new.self c.put.new.self c.args.and c.in-Some-truth_in.b c.args.e.now f.locals.paired c.in-Some.ensures c.in-Some-truth_in.ensures
    (sym c.same_truth.ensures ∙ c.if-same_truth.true)
    (c.in_ok-put-in-Some-truth_in.ensures ∙ ap (λ (n : ℕ). acts.acts n c.args.e.now (todo_in f.todo)) c.len.ensures.vars)
