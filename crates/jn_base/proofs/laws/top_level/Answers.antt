use Rattle.jn_base.proofs.SuperLaws.{top_direct}
use Rattle.jn_base.proofs.laws.top_level.Goals as goal

pub returns : goal.returns
returns c p A S = top_direct p A S
