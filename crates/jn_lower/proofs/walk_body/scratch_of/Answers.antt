use Rattle.std.proofs.Common.{List, suc, ap, ◌∙◌}
use Rattle.jn_base.specs.declared.tree.Stmt.{Stmt}
use Rattle.jn_sem.specs.Acts.{path_behind}
use Rattle.jn_lower.proofs.NextLocals.{if_ok}
use Rattle.jn_lower.proofs.walk_body.scratch_of.Goals as goal

pub returns-in-Some : goal.returns-in-Some
returns-in-Some c =
    if_ok c.next_behind.result (λ q e. e ∙ ap (λ (ss : List Stmt). path_behind ss c.in-Some.first) c.as_slice.ensures
    ∙ ap (path_behind c.args.m.now.body) (c.in-Some.ensures ∙ ap suc c.len.ensures)) c.next_behind.ensures
