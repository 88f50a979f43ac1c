use Rattle.jn_sources.proofs.Answered.{one_verdict}
use Rattle.jn_sources.proofs.verdict_is_one.Goals as goal

pub returns : goal.returns
returns c bytes = one_verdict bytes
