use Rattle.std.proofs.Common.{◌≡◌, true, sym, ◌∙◌}
use Rattle.std.proofs.lemmas.Result.{err_from_is_err_and}
use Rattle.jn_grammar.specs.ReadStmts.{in_body}
use Rattle.jn_grammar.specs.ReadDecls.{member_in, members_of}
use Rattle.jn_parser.proofs.ShorterBodies.{member_less}
use Rattle.jn_parser.proofs.Loops.{rowed_starts, rowed_goes, rowed_ends, rowed_error, body_there}
use Rattle.jn_parser.proofs.decl.+member.Goals as goal

pub members-row-init : goal.members-row-init
members-row-init t c = rw c.new-found.ensures (rowed_starts in_body (member_in true c.args.left (members_of true c.args.left) c.args.kind c.args.depth) 1 c.args.ts.now)

pub members-row-preserved : goal.members-row-preserved
members-row-preserved t c =
    let m : in_body c.row.rest.now ≡ true = sym c.is_in_body.ensures ∙ c.row-test.true in
    rw c.in_ok-push.ensures.ok (rowed_goes in_body (member_in true c.args.left (members_of true c.args.left) c.args.kind c.args.depth) c.row.found c.row.rest.now _ c.in_ok-item.item c.in_ok-item.after.now m c.in_ok-item.ensures (member_less c.args.left c.args.kind c.args.depth 1 c.row.rest.now (c.in_ok-item.item, c.in_ok-item.after.now) (c.in_ok-item.ensures 1)) c.row.invariant)

pub members-row-smaller : goal.members-row-smaller
members-row-smaller t c = member_less c.args.left c.args.kind c.args.depth 1 c.row.rest.now (c.in_ok-item.item, c.in_ok-item.after.now) (c.in_ok-item.ensures 1)

pub members-returns-in_err-item : goal.members-returns-in_err-item
members-returns-in_err-item t c =
    let m : in_body c.row.rest.now ≡ true = sym c.is_in_body.ensures ∙ c.row-test.true in
    let p = err_from_is_err_and c.from_residual.result c.from_residual.ensures.1 in
    rw (p.1, p.2) (rowed_error in_body (member_in true c.args.left (members_of true c.args.left) c.args.kind c.args.depth) c.row.found c.row.rest.now _ c.in_err-item.field-0.0 m c.in_err-item.ensures (body_there c.row.rest.now m) c.row.invariant)

pub members-returns : goal.members-returns
members-returns t c = rowed_ends in_body (member_in true c.args.left (members_of true c.args.left) c.args.kind c.args.depth) c.row.found c.row.rest.now _ (sym c.is_in_body.ensures ∙ c.row-test.false) c.row.invariant
