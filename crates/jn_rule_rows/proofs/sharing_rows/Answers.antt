use Rattle.jn_rule_rows.proofs.SharingProof.{sharing_rows}
use Rattle.jn_rule_rows.proofs.sharing_rows.Goals as goal

pub returns : goal.returns
returns c = sharing_rows c.at_an_heir.ensures
