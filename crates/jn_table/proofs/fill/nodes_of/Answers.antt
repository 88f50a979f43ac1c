use Rattle.std.proofs.lemmas.Result.{err_from_is_err_and}
use Rattle.jn_table.specs.Answers.{memory}
use Rattle.jn_table.proofs.Fillings.{refused_over}
use Rattle.jn_table.proofs.fill.nodes_of.Goals as goal

pub returns-in_err-found-clause-err : goal.returns-in_err-found-clause-err
returns-in_err-found-clause-err c =
    let p = err_from_is_err_and c.from_residual.result c.from_residual.ensures.1 in rw (p.1, p.2) (λ q of. memory)

pub returns-in_err-path-in-Over-clause-err : goal.returns-in_err-path-in-Over-clause-err
returns-in_err-path-in-Over-clause-err c =
    let p = err_from_is_err_and c.from_residual-in_err-path-in-Over.result c.from_residual-in_err-path-in-Over.ensures.1 in
    rw (p.1, p.2) (λ q of. memory)

pub returns-in_ok-path-in-Over-clause-err : goal.returns-in_ok-path-in-Over-clause-err
returns-in_ok-path-in-Over-clause-err c =
    refused_over _ _ _ c.in-Over.over c.in_ok-path-in-Over.ensures (rw c.in-Over.is at c.in_ok-found.ensures.exact)
