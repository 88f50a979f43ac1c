use Rattle.jn_laws.proofs.CleanTexts.{texts_name_few}
use Rattle.jn_laws.proofs.sources.texts_name_few.Goals as goal

pub returns : goal.returns
returns c = texts_name_few
