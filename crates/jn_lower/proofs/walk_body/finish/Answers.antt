use Rattle.std.proofs.Common.{ℕ, suc, ◌≤◌, ap, ◌∙◌, subst}
use Rattle.std.specs.Prelude.{take}
use Rattle.jn_lower.proofs.NextLocals.{if_ok}
use Rattle.jn_lower.proofs.Forming.{code_formed}
use Rattle.jn_lower.proofs.walk_body.finish.Goals as goal

pub returns-in-Some-clause-finished : goal.returns-in-Some-clause-finished
returns-in-Some-clause-finished c =
    if_ok c.finish_with.result (λ code made. record {
      params = made.is.params ∙ ap (λ (k : ℕ). take k c.args.out.locals.kinds) (c.in-Some.ensures ∙ ap suc c.len.ensures);
      locals = made.is.locals;
      scratch = made.formed.locals.scratch;
      few = subst (λ (k : ℕ). k ≤ 16) (c.in-Some.ensures ∙ ap suc c.len.ensures) made.formed.locals.few;
      result = made.is.result ∙ c.written_result.ensures;
      instrs = made.is.instrs;
    }) c.finish_with.ensures

pub returns-in-Some-clause-formed : goal.returns-in-Some-clause-formed
returns-in-Some-clause-formed c =
    if_ok c.finish_with.result (λ code made. code_formed c.args.m.now c.args.out c.in-Some.count c.in_ok-above.above
    c.written_result.result code made (c.in-Some.ensures ∙ ap suc c.len.ensures) c.in_ok-above.ensures c.written_result.ensures)
    c.finish_with.ensures
