use Rattle.std.proofs.Common.{◌≡◌, true, rules, sym, ◌∙◌}
use Rattle.std.proofs.lemmas.Result.{err_from_is_err_and}
use Rattle.jn_base.specs.declared.word.Mark.TheVariants.{Comma, Dot}
use Rattle.jn_base.specs.declared.word.Word.TheVariants.{Mark as Marked}
use Rattle.jn_grammar.specs.Begins.{begins}
use Rattle.jn_grammar.specs.ReadExprs.{level, suffix_in, goes_on, link_in, arg_in}
use Rattle.jn_parser.specs.Levels.{operand_in}
use Rattle.jn_grammar.specs.ReadExprs.{new_in}
use Rattle.jn_parser.proofs.Shorter.{some_there, suffix_less, arg_less, link_less, operator_there}
use Rattle.jn_parser.proofs.Loops.{rowed_starts, rowed_goes, rowed_ends, rowed_error, level_none, level_some, term_at_is}
use Rattle.jn_parser.proofs.expr.+expr.Goals as goal

pub suffixes-row-init : goal.suffixes-row-init
suffixes-row-init t c = rw c.new-found.ensures (rowed_starts (begins (Marked Dot)) (suffix_in (level c.args.left)) 1 c.args.ts.now)

pub suffixes-row-preserved : goal.suffixes-row-preserved
suffixes-row-preserved t c =
    let m : begins (Marked Dot) c.row.rest.now ≡ true = sym c.starts.ensures ∙ c.row-test.true in
    rw c.in_ok-push.ensures.ok (rowed_goes (begins (Marked Dot)) (suffix_in (level c.args.left)) c.row.found c.row.rest.now _ c.in_ok-item.item c.in_ok-item.after.now m c.in_ok-item.ensures (suffix_less c.args.left 1 c.row.rest.now (c.in_ok-item.item, c.in_ok-item.after.now) m (c.in_ok-item.ensures 1)) c.row.invariant)

pub suffixes-row-smaller : goal.suffixes-row-smaller
suffixes-row-smaller t c =
    let m : begins (Marked Dot) c.row.rest.now ≡ true = sym c.starts.ensures ∙ c.row-test.true in
    suffix_less c.args.left 1 c.row.rest.now (c.in_ok-item.item, c.in_ok-item.after.now) m (c.in_ok-item.ensures 1)

pub suffixes-returns : goal.suffixes-returns
suffixes-returns t c = rowed_ends (begins (Marked Dot)) (suffix_in (level c.args.left)) c.row.found c.row.rest.now _ (sym c.starts.ensures ∙ c.row-test.false) c.row.invariant

pub suffixes-returns-in_err-item : goal.suffixes-returns-in_err-item
suffixes-returns-in_err-item t c =
    let m : begins (Marked Dot) c.row.rest.now ≡ true = sym c.starts.ensures ∙ c.row-test.true in
    let p = err_from_is_err_and c.from_residual.result c.from_residual.ensures.1 in
    rw (p.1, p.2) (rowed_error (begins (Marked Dot)) (suffix_in (level c.args.left)) c.row.found c.row.rest.now _ c.in_err-item.field-0.0 m c.in_err-item.ensures (some_there (Marked Dot) c.row.rest.now m) c.row.invariant)

pub links-row-init : goal.links-row-init
links-row-init t c = rw c.new-found.ensures (rowed_starts (goes_on c.args.level) (link_in c.args.level (operand_in (level c.args.left) c.args.level)) 1 c.args.ts.now)

pub links-row-preserved : goal.links-row-preserved
links-row-preserved t c =
    let m : goes_on c.args.level c.row.rest.now ≡ true = sym c.goes_on.ensures ∙ c.row-test.true in
    rw c.in_ok-push.ensures.ok (rowed_goes (goes_on c.args.level) (link_in c.args.level (operand_in (level c.args.left) c.args.level)) c.row.found c.row.rest.now _ c.in_ok-item.item c.in_ok-item.after.now m c.in_ok-item.ensures (link_less c.args.left c.args.level 1 c.row.rest.now (c.in_ok-item.item, c.in_ok-item.after.now) m (c.in_ok-item.ensures 1)) c.row.invariant)

pub links-row-smaller : goal.links-row-smaller
links-row-smaller t c =
    let m : goes_on c.args.level c.row.rest.now ≡ true = sym c.goes_on.ensures ∙ c.row-test.true in
    link_less c.args.left c.args.level 1 c.row.rest.now (c.in_ok-item.item, c.in_ok-item.after.now) m (c.in_ok-item.ensures 1)

pub links-returns : goal.links-returns
links-returns t c = rowed_ends (goes_on c.args.level) (link_in c.args.level (operand_in (level c.args.left) c.args.level)) c.row.found c.row.rest.now _ (sym c.goes_on.ensures ∙ c.row-test.false) c.row.invariant

pub links-returns-in_err-item : goal.links-returns-in_err-item
links-returns-in_err-item t c =
    let m : goes_on c.args.level c.row.rest.now ≡ true = sym c.goes_on.ensures ∙ c.row-test.true in
    let p = err_from_is_err_and c.from_residual.result c.from_residual.ensures.1 in
    rw (p.1, p.2) (rowed_error (goes_on c.args.level) (link_in c.args.level (operand_in (level c.args.left) c.args.level)) c.row.found c.row.rest.now _ c.in_err-item.field-0.0 m c.in_err-item.ensures (operator_there c.args.level c.row.rest.now m) c.row.invariant)

pub more_args-row-init : goal.more_args-row-init
more_args-row-init t c = rw c.new-found.ensures (rowed_starts (begins (Marked Comma)) (arg_in (level c.args.left)) 1 c.args.ts.now)

pub more_args-row-preserved : goal.more_args-row-preserved
more_args-row-preserved t c =
    let m : begins (Marked Comma) c.row.rest.now ≡ true = sym c.starts.ensures ∙ c.row-test.true in
    rw c.in_ok-push.ensures.ok (rowed_goes (begins (Marked Comma)) (arg_in (level c.args.left)) c.row.found c.row.rest.now _ c.in_ok-item.item c.in_ok-item.after.now m c.in_ok-item.ensures (arg_less c.args.left 1 c.row.rest.now (c.in_ok-item.item, c.in_ok-item.after.now) m (c.in_ok-item.ensures 1)) c.row.invariant)

pub more_args-row-smaller : goal.more_args-row-smaller
more_args-row-smaller t c =
    let m : begins (Marked Comma) c.row.rest.now ≡ true = sym c.starts.ensures ∙ c.row-test.true in
    arg_less c.args.left 1 c.row.rest.now (c.in_ok-item.item, c.in_ok-item.after.now) m (c.in_ok-item.ensures 1)

pub more_args-returns : goal.more_args-returns
more_args-returns t c = rowed_ends (begins (Marked Comma)) (arg_in (level c.args.left)) c.row.found c.row.rest.now _ (sym c.starts.ensures ∙ c.row-test.false) c.row.invariant

pub more_args-returns-in_err-item : goal.more_args-returns-in_err-item
more_args-returns-in_err-item t c =
    let m : begins (Marked Comma) c.row.rest.now ≡ true = sym c.starts.ensures ∙ c.row-test.true in
    let p = err_from_is_err_and c.from_residual.result c.from_residual.ensures.1 in
    rw (p.1, p.2) (rowed_error (begins (Marked Comma)) (arg_in (level c.args.left)) c.row.found c.row.rest.now _ c.in_err-item.field-0.0 m c.in_err-item.ensures (some_there (Marked Comma) c.row.rest.now m) c.row.invariant)

pub expr_inside-returns-then-left-eq0 : goal.expr_inside-returns-then-left-eq0
expr_inside-returns-then-left-eq0 t c = rw (level_none c.args.left c.if-left-eq0.true) (search rules)

pub expr_inside-returns : goal.expr_inside-returns
expr_inside-returns t c = rw (level_some c.args.left c.if-left-eq0.false) (search rules)

pub unary_inside-returns-then-left-eq0 : goal.unary_inside-returns-then-left-eq0
unary_inside-returns-then-left-eq0 t c = rw (level_none c.args.left c.if-left-eq0.true) (search rules)

pub unary_inside-returns : goal.unary_inside-returns
unary_inside-returns t c = rw (level_some c.args.left c.if-left-eq0.false) (search rules)

pub operand_inside-returns-then-left-eq0 : goal.operand_inside-returns-then-left-eq0
operand_inside-returns-then-left-eq0 t c = rw (level_none c.args.left c.if-left-eq0.true) (search rules)

pub operand_inside-returns : goal.operand_inside-returns
operand_inside-returns t c = rw (level_some c.args.left c.if-left-eq0.false) (search rules)

pub args_inside-returns-then-left-eq0 : goal.args_inside-returns-then-left-eq0
args_inside-returns-then-left-eq0 t c = rw (level_none c.args.left c.if-left-eq0.true) (search rules)

pub args_inside-returns : goal.args_inside-returns
args_inside-returns t c = rw (level_some c.args.left c.if-left-eq0.false) (search rules)

pub new_object-returns-in_err-class : goal.new_object-returns-in_err-class
unfolding new_in
new_object-returns-in_err-class t c = rw (term_at_is c.args.left c.args.ts.now) (search rules)

pub new_object-returns-in_err-args : goal.new_object-returns-in_err-args
unfolding new_in
new_object-returns-in_err-args t c = rw (term_at_is c.args.left c.args.ts.now) (search rules)

pub new_object-returns : goal.new_object-returns
unfolding new_in
new_object-returns t c = rw (term_at_is c.args.left c.args.ts.now) (search rules)
