use Rattle.std.proofs.Common.{◌∙◌}
use Rattle.jn_lower.proofs.NextLocals.{if_ok}
use Rattle.jn_lower.proofs.walk_body.next_behind.Goals as goal

pub returns-in-Some : goal.returns-in-Some
returns-in-Some c = if_ok c.byte_of.result (λ q e. e ∙ c.in-Some.ensures) c.byte_of.ensures
