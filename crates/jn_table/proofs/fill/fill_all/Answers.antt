use Rattle.std.proofs.lemmas.Result.{err_from_is_err_and}
use Rattle.jn_table.specs.Answers.{memory}
use Rattle.jn_table.proofs.Fillings.{refuses, fills}
use Rattle.jn_table.proofs.OwnParts.{declared_shown}
use Rattle.jn_table.proofs.fill.fill_all.Goals as goal

pub returns-in_err-judged-clause-err : goal.returns-in_err-judged-clause-err
returns-in_err-judged-clause-err c =
    let p = err_from_is_err_and c.from_residual-in_err-judged.result c.from_residual-in_err-judged.ensures.1 in
    rw (p.1, p.2) (refuses _ _ c.in_ok-universe.universe c.in_ok-universe.ensures.fits c.in_ok-universe.ensures.ok _ c.in_err-judged.ensures.err)

pub returns-in_err-rows-clause-err : goal.returns-in_err-rows-clause-err
returns-in_err-rows-clause-err c =
    let p = err_from_is_err_and c.from_residual-in_err-rows.result c.from_residual-in_err-rows.ensures.1 in rw
    (p.1, p.2) (λ q of. memory)

pub returns-clause-ok : goal.returns-clause-ok
returns-clause-ok c =
    fills _ _ c.in_ok-universe.universe c.in_ok-universe.ensures.fits c.in_ok-universe.ensures.ok _ _ _ c.in_ok-judged.ensures.ok
    c.in_ok-rows.ensures.known c.in_ok-rows.ensures.rows

pub returns-clause-declared : goal.returns-clause-declared
returns-clause-declared c =
    rw (c.in_ok-rows.ensures.known, c.in_ok-rows.ensures.declared)
    (declared_shown _ c.in_ok-universe.universe.nodes.paths.items c.in_ok-universe.universe.own.declared.items
    c.in_ok-universe.ensures.own.declared)
