use Rattle.std.proofs.Common.{◌≡◌, true, sym, ◌∙◌}
use Rattle.std.proofs.lemmas.Result.{err_from_is_err_and}
use Rattle.jn_base.specs.declared.word.Mark.TheVariants.{Ampersand}
use Rattle.jn_base.specs.declared.word.Word.TheVariants.{Mark as Marked}
use Rattle.jn_grammar.specs.Begins.{begins}
use Rattle.jn_grammar.specs.ReadDecls.{next_name_in}
use Rattle.jn_parser.proofs.Shorter.{some_there}
use Rattle.jn_parser.proofs.ShorterBodies.{next_name_less}
use Rattle.jn_parser.proofs.Loops.{rowed_starts, rowed_goes, rowed_ends, rowed_error}
use Rattle.jn_parser.proofs.decl.next_names.Goals as goal

pub row-init : goal.row-init
row-init c = rw c.new-found.ensures (rowed_starts (begins (Marked Ampersand)) next_name_in 1 c.args.ts.now)

pub row-preserved : goal.row-preserved
row-preserved c =
    let m : (begins (Marked Ampersand)) c.row.rest.now ≡ true = sym c.starts.ensures ∙ c.row-test.true in
    rw c.in_ok-push.ensures.ok (rowed_goes (begins (Marked Ampersand)) next_name_in c.row.found c.row.rest.now _ c.in_ok-item.item c.in_ok-item.after.now m c.in_ok-item.ensures (next_name_less 1 c.row.rest.now (c.in_ok-item.item, c.in_ok-item.after.now) m (c.in_ok-item.ensures 1)) c.row.invariant)

pub row-smaller : goal.row-smaller
row-smaller c =
    let m : (begins (Marked Ampersand)) c.row.rest.now ≡ true = sym c.starts.ensures ∙ c.row-test.true in
    next_name_less 1 c.row.rest.now (c.in_ok-item.item, c.in_ok-item.after.now) m (c.in_ok-item.ensures 1)

pub returns : goal.returns
returns c = rowed_ends (begins (Marked Ampersand)) next_name_in c.row.found c.row.rest.now _ (sym c.starts.ensures ∙ c.row-test.false) c.row.invariant

pub returns-in_err-item : goal.returns-in_err-item
returns-in_err-item c =
    let m : (begins (Marked Ampersand)) c.row.rest.now ≡ true = sym c.starts.ensures ∙ c.row-test.true in
    let p = err_from_is_err_and c.from_residual.result c.from_residual.ensures.1 in
    rw (p.1, p.2) (rowed_error (begins (Marked Ampersand)) next_name_in c.row.found c.row.rest.now _ c.in_err-item.field-0.0 m c.in_err-item.ensures (some_there (Marked Ampersand) c.row.rest.now m) c.row.invariant)
