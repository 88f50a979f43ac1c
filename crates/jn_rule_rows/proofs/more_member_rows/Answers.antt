use Rattle.jn_rule_rows.proofs.MoreProof.{more_member_rows}
use Rattle.jn_rule_rows.proofs.more_member_rows.Goals as goal

pub returns : goal.returns
returns c = more_member_rows
