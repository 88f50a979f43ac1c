use Rattle.jn_rule_rows.proofs.MoreProof.{source_rows}
use Rattle.jn_rule_rows.proofs.source_rows.Goals as goal

pub returns : goal.returns
returns c = source_rows
