use Rattle.jn_rule_rows.proofs.MainRows.{main_rows}
use Rattle.jn_rule_rows.proofs.main_rows.Goals as goal

pub returns : goal.returns
returns c = main_rows
