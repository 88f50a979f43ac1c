use Rattle.jn_laws.proofs.SpelledForms.{sources_brackets_named}
use Rattle.jn_laws.proofs.sources.sources_brackets_named.Goals as goal

pub returns : goal.returns
returns c = sources_brackets_named
