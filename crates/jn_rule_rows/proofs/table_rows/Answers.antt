use Rattle.jn_rule_rows.proofs.OtherRows.{table_rows}
use Rattle.jn_rule_rows.proofs.table_rows.Goals as goal

pub returns : goal.returns
returns c = table_rows
