use Rattle.jn_rule_rows.proofs.OtherRows.{type_rows}
use Rattle.jn_rule_rows.proofs.type_rows.Goals as goal

pub returns : goal.returns
returns c s = type_rows s
