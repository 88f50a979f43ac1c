use Rattle.jn_laws.proofs.CleanTexts.{texts_keep_limits}
use Rattle.jn_laws.proofs.sources.texts_keep_limits.Goals as goal

pub returns : goal.returns
returns c = texts_keep_limits
