use Rattle.jn_lower.proofs.Seams.{on_ok}
use Rattle.jn_lower.proofs.LeafForms.{var_done}
use Rattle.jn_lower.proofs.walk_exprs.var_value.Goals as goal

pub returns-in_ok-variable-in-Some : goal.returns-in_ok-variable-in-Some
returns-in_ok-variable-in-Some c =
    on_ok c.had.result (λ h g x. var_done g x c.in-Some.q c.args.w.now c.next_var.new.self c.variable.new.out c.had.new.w
    c.in-Some.ensures c.in_ok-variable-in-Some.ensures h) c.had.ensures
