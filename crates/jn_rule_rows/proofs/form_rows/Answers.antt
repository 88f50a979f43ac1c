use Rattle.jn_rule_rows.proofs.OtherRows.{form_rows}
use Rattle.jn_rule_rows.proofs.form_rows.Goals as goal

pub returns : goal.returns
returns c p = form_rows p
