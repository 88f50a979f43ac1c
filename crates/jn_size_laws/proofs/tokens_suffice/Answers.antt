use Rattle.jn_size_laws.proofs.Tokens.{expr_short, stmts_short}
use Rattle.jn_size_laws.proofs.tokens_suffice.Goals as goal

pub returns : goal.returns
returns x = record { expr = expr_short; stmts = stmts_short }
