use Rattle.jn_laws.proofs.SpelledForms.{sources_well_formed}
use Rattle.jn_laws.proofs.sources.sources_well_formed.Goals as goal

pub returns : goal.returns
returns c = sources_well_formed
