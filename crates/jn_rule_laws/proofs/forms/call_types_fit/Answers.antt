use Rattle.jn_rule_laws.proofs.CallTypes.{call_types_fit}
use Rattle.jn_rule_laws.proofs.forms.call_types_fit.Goals as goal

pub returns : goal.returns
returns c = call_types_fit
