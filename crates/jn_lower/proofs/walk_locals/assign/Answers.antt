use Rattle.jn_lower.proofs.Seams.{on_ok}
use Rattle.jn_lower.proofs.Declaring.{assigned}
use Rattle.jn_lower.proofs.walk_locals.assign.Goals as goal

pub returns-in_ok-value-in-Some : goal.returns-in_ok-value-in-Some
returns-in_ok-value-in-Some c =
    on_ok c.push.result (λ h name. assigned c.args.g.now name c.args.e.now c.in-Some.q c.next_var.new.self c.args.w.now c.value.new.w
    c.push.new.w c.in-Some.ensures c.in_ok-value-in-Some.ensures h) c.push.ensures
