use Rattle.std.proofs.Common.{◌≡◌, true, sym, ◌∙◌}
use Rattle.std.proofs.lemmas.Result.{err_from_is_err_and}
use Rattle.jn_grammar.specs.ReadStmts.{in_body, stmt_in, stmts_of}
use Rattle.jn_parser.proofs.ShorterBodies.{stmt_less}
use Rattle.jn_parser.proofs.Loops.{count_starts, count_goes, count_ends, count_error, body_there}
use Rattle.jn_parser.proofs.stmt.+stmt.Goals as goal

pub stmts-row-init : goal.stmts-row-init
stmts-row-init t c = rw c.new-found.ensures (count_starts in_body (stmt_in true c.args.left (stmts_of true c.args.left)) c.args.used c.args.ts.now)

pub stmts-row-preserved : goal.stmts-row-preserved
stmts-row-preserved t c =
    let m : in_body c.row.rest.now ≡ true = sym c.is_in_body.ensures ∙ c.row-test.true in
    rw c.in_ok-push.ensures.ok (count_goes in_body (stmt_in true c.args.left (stmts_of true c.args.left)) c.row.used c.row.found c.row.rest.now _ c.in_ok-item.item c.in_ok-item.count c.in_ok-item.after.now m c.in_ok-item.ensures (stmt_less c.args.left c.row.used c.row.rest.now ((c.in_ok-item.item, c.in_ok-item.count), c.in_ok-item.after.now) c.in_ok-item.ensures) c.row.invariant)

pub stmts-row-smaller : goal.stmts-row-smaller
stmts-row-smaller t c = stmt_less c.args.left c.row.used c.row.rest.now ((c.in_ok-item.item, c.in_ok-item.count), c.in_ok-item.after.now) c.in_ok-item.ensures

pub stmts-returns : goal.stmts-returns
stmts-returns t c = count_ends in_body (stmt_in true c.args.left (stmts_of true c.args.left)) c.row.used c.row.found c.row.rest.now _ (sym c.is_in_body.ensures ∙ c.row-test.false) c.row.invariant

pub stmts-returns-in_err-item : goal.stmts-returns-in_err-item
stmts-returns-in_err-item t c =
    let m : in_body c.row.rest.now ≡ true = sym c.is_in_body.ensures ∙ c.row-test.true in
    let p = err_from_is_err_and c.from_residual.result c.from_residual.ensures.1 in
    rw (p.1, p.2) (count_error in_body (stmt_in true c.args.left (stmts_of true c.args.left)) c.row.used c.row.found c.row.rest.now _ c.in_err-item.field-0.0 m c.in_err-item.ensures (body_there c.row.rest.now m) c.row.invariant)
