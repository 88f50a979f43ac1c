use Rattle.jn_rule_rows.proofs.NameRows.{name_rows}
use Rattle.jn_rule_rows.proofs.name_rows.Goals as goal

pub returns : goal.returns
returns c = name_rows
