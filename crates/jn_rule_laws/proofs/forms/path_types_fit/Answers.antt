use Rattle.jn_rule_laws.proofs.KnownTypes.{path_types_fit}
use Rattle.jn_rule_laws.proofs.forms.path_types_fit.Goals as goal

pub returns : goal.returns
returns c = path_types_fit
