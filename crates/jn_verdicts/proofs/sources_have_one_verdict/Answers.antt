use Rattle.jn_verdicts.proofs.SourceVerdicts.{one_source}
use Rattle.jn_verdicts.proofs.sources_have_one_verdict.Goals as goal

pub returns : goal.returns
returns c bytes = one_source bytes
