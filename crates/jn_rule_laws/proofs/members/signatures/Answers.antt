use Rattle.jn_rule_laws.proofs.SameSignatures.{signatures}
use Rattle.jn_rule_laws.proofs.members.signatures.Goals as goal

pub returns : goal.returns
returns c = signatures
