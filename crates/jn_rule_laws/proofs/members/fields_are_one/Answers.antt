use Rattle.jn_rule_laws.proofs.OneFields.{fields_are_one}
use Rattle.jn_rule_laws.proofs.members.fields_are_one.Goals as goal

pub returns : goal.returns
returns c = fields_are_one
