use Rattle.jn_sound.proofs.OtherExprs.{expressions_fit}
use Rattle.jn_sound.proofs.expressions_fit.Goals as goal

pub returns : goal.returns
returns c = expressions_fit
