use Rattle.jn_rule_rows.proofs.OtherRows.{member_rows}
use Rattle.jn_rule_rows.proofs.member_rows.Goals as goal

pub returns : goal.returns
returns c = member_rows
