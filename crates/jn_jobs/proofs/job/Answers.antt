use Rattle.std.proofs.Common.{◌≡◌, ◌∙◌, sym, ap, Some, Result, Ok, Err}
use Rattle.std.specs.Prelude.{option_and_then, IfErr, IsErrAnd}
use Rattle.std.proofs.lemmas.Result.{IfOk-weaker}
use Rattle.jn_jobs.specs.Jobs.{Job, job_in, job_of}
use Rattle.jn_jobs.specs.declared.WordsFault.{WordsFault}
use Rattle.jn_jobs.specs.declared.WordsFault.TheVariants.{Usage}
use Rattle.jn_jobs.proofs.job.Goals as goal

-- a fault that is handed on
handed : {T : Type 0} (r : Result T WordsFault) (fault : WordsFault) (J : Type 0) → IsErrAnd r (λ e. e ≡ fault) → (fault ≡ Usage → J) → IfErr r (λ e. e ≡ Usage → J)
handed (Ok x) fault J is at_usage = tt
handed (Err e) fault J is at_usage = λ usage. at_usage (sym is ∙ usage)

pub returns-in_err-matches-clause-usage : goal.returns-in_err-matches-clause-usage
unfolding job_of
returns-in_err-matches-clause-usage c =
    handed c.from_residual.result c.in_err-matches.field-0.0 _ c.from_residual.ensures.1 (λ usage. ap (option_and_then job_in) (c.in_err-matches.ensures.usage usage))

pub returns-in_default-clause-usage : goal.returns-in_default-clause-usage
unfolding job_of
returns-in_default-clause-usage c = λ e. ap (option_and_then job_in) c.in_ok-matches.ensures.ok ∙ sym (rw c.in_default.is at c.found_in.ensures)

pub returns-clause-ok : goal.returns-clause-ok
unfolding job_of
returns-clause-ok c =
    let found = sym (rw c.in-Some.is at c.found_in.ensures) in
    IfOk-weaker c.owned.result _ _ (λ j h. ap (option_and_then job_in) c.in_ok-matches.ensures.ok ∙ (found ∙ ap (λ (x : Job). Some x) (sym h))) c.owned.ensures.ok
