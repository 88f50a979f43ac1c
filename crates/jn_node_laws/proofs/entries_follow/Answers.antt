use Rattle.jn_link_laws.specs.LawsOfAgreement.{knows_by}
use Rattle.jn_node_laws.specs.LawsOfNodes.{stands_by}
use Rattle.jn_node_laws.proofs.Entries as entries
use Rattle.jn_node_laws.proofs.entries_follow.Goals as goal

pub returns : goal.returns
returns g c stand may back = entries.entries_follow (knows_by may back) _ (stands_by stand)
