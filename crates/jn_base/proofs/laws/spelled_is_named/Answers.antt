use Rattle.jn_base.proofs.SpelledNames.{spelled_is_named}
use Rattle.jn_base.proofs.laws.spelled_is_named.Goals as goal

pub returns : goal.returns
returns c p bytes s = spelled_is_named p bytes s
