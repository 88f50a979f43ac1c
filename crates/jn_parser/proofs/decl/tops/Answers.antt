use Rattle.std.proofs.Common.{◌≡◌, true, sym, ◌∙◌}
use Rattle.std.proofs.lemmas.Result.{err_from_is_err_and}
use Rattle.jn_grammar.specs.ReadDecls.{in_file, top_in, tops_in}
use Rattle.jn_parser.proofs.ShorterBodies.{top_less}
use Rattle.jn_parser.proofs.Loops.{rowed_starts, rowed_goes, rowed_ends, rowed_error, file_there}
use Rattle.jn_parser.proofs.decl.tops.Goals as goal

pub row-init : goal.row-init
row-init c = rw c.new-found.ensures (rowed_starts in_file (top_in true c.args.left) 1 c.args.ts.now)

pub row-preserved : goal.row-preserved
row-preserved c =
    let m : in_file c.row.rest.now ≡ true = sym c.is_in_file.ensures ∙ c.row-test.true in
    rw c.in_ok-push.ensures.ok (rowed_goes in_file (top_in true c.args.left) c.row.found c.row.rest.now _ c.in_ok-item.item c.in_ok-item.after.now m c.in_ok-item.ensures (top_less c.args.left 1 c.row.rest.now (c.in_ok-item.item, c.in_ok-item.after.now) (c.in_ok-item.ensures 1)) c.row.invariant)

pub row-smaller : goal.row-smaller
row-smaller c = top_less c.args.left 1 c.row.rest.now (c.in_ok-item.item, c.in_ok-item.after.now) (c.in_ok-item.ensures 1)

pub returns-in_err-item : goal.returns-in_err-item
unfolding tops_in
returns-in_err-item c =
    let m : in_file c.row.rest.now ≡ true = sym c.is_in_file.ensures ∙ c.row-test.true in
    let p = err_from_is_err_and c.from_residual.result c.from_residual.ensures.1 in
    rw (p.1, p.2) (rowed_error in_file (top_in true c.args.left) c.row.found c.row.rest.now _ c.in_err-item.field-0.0 m c.in_err-item.ensures (file_there c.row.rest.now m) c.row.invariant)

pub returns : goal.returns
unfolding tops_in
returns c = rowed_ends in_file (top_in true c.args.left) c.row.found c.row.rest.now _ (sym c.is_in_file.ensures ∙ c.row-test.false) c.row.invariant
