use Rattle.jn_rule_rows.proofs.FamilyProof.{family_rows}
use Rattle.jn_rule_rows.proofs.family_rows.Goals as goal

pub returns : goal.returns
returns c = family_rows
