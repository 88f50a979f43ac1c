use Rattle.jn_laws.proofs.Bounded.{members_in_universe}
use Rattle.jn_laws.proofs.bounds.members_in_universe.Goals as goal

pub returns : goal.returns
returns c = members_in_universe
