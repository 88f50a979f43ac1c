use Rattle.std.proofs.Common.{rules, ◌∙◌, sym, ap, List}
use Rattle.std.proofs.Math.ListN.{drop_of_length-le}
use Rattle.jn_base.specs.declared.tree.Stmt.{Stmt}
use Rattle.jn_sem.specs.Acts.{path_behind}
use Rattle.jn_lower.proofs.NextLocals.{if_some}
use Rattle.jn_lower.proofs.NextLocals.{behind_block, behind_local, behind_if, behind_while, behind_assign, behind_set, behind_do, behind_return, behind_print, behind_text}
use Rattle.jn_lower.proofs.path_behind.+locals.Goals as goal

pub path_after-returns-in-Block : goal.path_after-returns-in-Block
path_after-returns-in-Block t c =
    if_some c.path_behind.result (λ n h. h ∙ ap (λ (b : List Stmt). path_behind b c.args.path) c.as_slice.ensures ∙ sym (behind_block _ c.args.path c.in-Block.body c.in-Block.is)) c.path_behind.ensures

pub path_after-returns-in-Local : goal.path_after-returns-in-Local
path_after-returns-in-Local t c =
    if_some c.next_number.result (λ n h. h ∙ sym (behind_local _ c.args.path c.in-Local.field-0 c.in-Local.field-1 c.in-Local.field-2 c.in-Local.field-3 c.in-Local.is)) c.next_number.ensures

pub path_after-returns-in-Some : goal.path_after-returns-in-Some
path_after-returns-in-Some t c =
    if_some c.path_behind-in-Some.result
    (λ n h. h ∙ ap (λ (b : List Stmt). path_behind b c.in-Some.next) c.as_slice-in-Some.ensures
    ∙ ap (path_behind c.in-If.other) (c.in-Some.ensures ∙ ap (λ (b : List Stmt). path_behind b c.args.path) c.as_slice-in-If.ensures)
    ∙ sym (behind_if _ c.args.path c.in-If.field-0 c.in-If.one c.in-If.other c.in-If.field-3 c.in-If.is))
    c.path_behind-in-Some.ensures

pub path_after-returns-in-While : goal.path_after-returns-in-While
path_after-returns-in-While t c =
    if_some c.path_behind-in-While.result (λ n h. h ∙ ap (λ (b : List Stmt). path_behind b c.args.path) c.as_slice-in-While.ensures ∙ sym (behind_while _ c.args.path c.in-While.field-0 c.in-While.body c.in-While.field-2 c.in-While.is)) c.path_behind-in-While.ensures

pub path_after-returns-in-Assign : goal.path_after-returns-in-Assign
path_after-returns-in-Assign t c = sym (behind_assign _ c.args.path c.in-Assign.field-0 c.in-Assign.field-1 c.in-Assign.is)

pub path_after-returns-in-Set : goal.path_after-returns-in-Set
path_after-returns-in-Set t c = sym (behind_set _ c.args.path c.in-Set.field-0 c.in-Set.field-1 c.in-Set.field-2 c.in-Set.is)

pub path_after-returns-in-Do : goal.path_after-returns-in-Do
path_after-returns-in-Do t c = sym (behind_do _ c.args.path c.in-Do.field-0 c.in-Do.is)

pub path_after-returns-in-Return : goal.path_after-returns-in-Return
path_after-returns-in-Return t c = sym (behind_return _ c.args.path c.in-Return.field-0 c.in-Return.field-1 c.in-Return.is)

pub path_after-returns-in-Print : goal.path_after-returns-in-Print
path_after-returns-in-Print t c = sym (behind_print _ c.args.path c.in-Print.field-0 c.in-Print.field-1 c.in-Print.is)

pub path_after-returns-in-PrintText : goal.path_after-returns-in-PrintText
path_after-returns-in-PrintText t c = sym (behind_text _ c.args.path c.in-PrintText.field-0 c.in-PrintText.field-1 c.in-PrintText.is)

pub path_behind-returns : goal.path_behind-returns
path_behind-returns t c =
    sym (ap (λ (ss : List Stmt). path_behind ss c.loop-s.at) (drop_of_length-le c.args.ss.now {i = c.loop-s.s-index} (search rules))) ∙ c.loop-s.invariant
