use Rattle.jn_sound.proofs.NeverStuck.{statements_fit}
use Rattle.jn_sound.proofs.statements_fit.Goals as goal

pub returns : goal.returns
returns c = statements_fit
