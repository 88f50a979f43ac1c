use Rattle.jn_lower.proofs.NextLocals.{if_ok}
use Rattle.jn_lower.proofs.walk_body.finish_with.Goals as goal

pub returns : goal.returns
returns c = if_ok c.code_of.result (λ code is. record { is = is; formed = c.is_formed.ensures c.if-not-is_formed.false }) c.code_of.ensures
