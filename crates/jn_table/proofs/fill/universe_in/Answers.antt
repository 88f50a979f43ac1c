use Rattle.std.proofs.lemmas.Result.{err_from_is_err_and}
use Rattle.jn_table.specs.Answers.{memory}
use Rattle.jn_table.proofs.Fillings.{universe_is}
use Rattle.jn_table.proofs.fill.universe_in.Goals as goal

pub returns-in_err-universe-clause-err : goal.returns-in_err-universe-clause-err
returns-in_err-universe-clause-err c =
    let p = err_from_is_err_and c.from_residual-in_err-universe.result c.from_residual-in_err-universe.ensures.1 in rw (p.1, p.2) (λ q of. memory)

pub returns-clause-ok : goal.returns-clause-ok
returns-clause-ok c =
    universe_is _ _ c.in_ok-nodes.nodes c.in_ok-universe.universe c.in_ok-nodes.ensures.ok c.in_ok-universe.ensures.nodes c.in_ok-universe.ensures.sups
    c.in_ok-universe.ensures.own

pub returns-clause-own : goal.returns-clause-own
returns-clause-own c = rw c.in_ok-universe.ensures.nodes c.in_ok-universe.ensures.own
