use Rattle.jn_rule_laws.proofs.FirstMasks.{no_first_mask}
use Rattle.jn_rule_laws.proofs.forms.no_first_mask.Goals as goal

pub returns : goal.returns
returns c = no_first_mask
