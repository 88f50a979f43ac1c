use Rattle.std.proofs.Common.{◌≡◌, true, sym, ◌∙◌, arith, add-one}
use Rattle.std.proofs.lemmas.Result.{err_from_is_err_and}
use Rattle.jn_base.specs.declared.word.Mark.TheVariants.{Ampersand}
use Rattle.jn_base.specs.declared.word.Word.TheVariants.{Mark as Marked}
use Rattle.jn_grammar.specs.Begins.{begins}
use Rattle.jn_grammar.specs.ReadTypes.{next_atom_in}
use Rattle.jn_parser.proofs.Shorter.{some_there, next_atom_less}
use Rattle.jn_parser.proofs.Loops.{row_starts, row_goes, row_ends, row_error}
use Rattle.jn_parser.proofs.types.next_atoms.Goals as goal

pub row-init : goal.row-init
row-init c = rw c.new-found.ensures (row_starts (begins (Marked Ampersand)) (next_atom_in true c.args.left) 2 c.args.ts.now, omega arith)

pub row-preserved : goal.row-preserved
row-preserved c =
    let m : begins (Marked Ampersand) c.row.rest.now ≡ true = sym c.starts.ensures ∙ c.row-test.true in
    let less = next_atom_less c.args.left c.row.k c.row.rest.now (c.in_ok-item.item, c.in_ok-item.after.now) m c.in_ok-item.ensures in
    rw (c.in_ok-push.ensures.ok, add-one) (row_goes (begins (Marked Ampersand)) (next_atom_in true c.args.left) c.row.k c.row.found c.row.rest.now _ c.in_ok-item.item c.in_ok-item.after.now m c.in_ok-item.ensures less c.row.invariant.0, omega arith)

pub row-smaller : goal.row-smaller
row-smaller c =
    let m : begins (Marked Ampersand) c.row.rest.now ≡ true = sym c.starts.ensures ∙ c.row-test.true in
    next_atom_less c.args.left c.row.k c.row.rest.now (c.in_ok-item.item, c.in_ok-item.after.now) m c.in_ok-item.ensures

pub returns : goal.returns
returns c = row_ends (begins (Marked Ampersand)) (next_atom_in true c.args.left) c.row.k c.row.found c.row.rest.now _ (sym c.starts.ensures ∙ c.row-test.false) c.row.invariant.0

pub returns-in_err-item : goal.returns-in_err-item
returns-in_err-item c =
    let m : begins (Marked Ampersand) c.row.rest.now ≡ true = sym c.starts.ensures ∙ c.row-test.true in
    let p = err_from_is_err_and c.from_residual.result c.from_residual.ensures.1 in
    rw (p.1, p.2) (row_error (begins (Marked Ampersand)) (next_atom_in true c.args.left) c.row.k c.row.found c.row.rest.now _ c.in_err-item.field-0.0 m c.in_err-item.ensures (some_there (Marked Ampersand) c.row.rest.now m) c.row.invariant.0)
