use Rattle.jn_sound.proofs.Theorem.{lead_on}
use Rattle.jn_sound.proofs.acts_lead_on.Goals as goal

pub returns : goal.returns
returns c = lead_on
