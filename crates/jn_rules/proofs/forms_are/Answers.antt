use Rattle.jn_rules.proofs.FormLaws.{forms_are}
use Rattle.jn_rules.proofs.forms_are.Goals as goal

pub returns : goal.returns
returns c = forms_are
