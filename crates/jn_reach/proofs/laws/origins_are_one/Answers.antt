use Rattle.jn_reach.proofs.Firsts.{IsOrigin-one}
use Rattle.jn_reach.proofs.laws.origins_are_one.Goals as goal

pub returns : goal.returns
returns c g starts b s t o p = IsOrigin-one g starts b s t o p
