use Rattle.jn_rule_rows.proofs.ManyProof.{many_rows}
use Rattle.jn_rule_rows.proofs.many_rows.Goals as goal

pub returns : goal.returns
returns c = many_rows
