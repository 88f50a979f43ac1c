use Rattle.jn_base.proofs.Homes.{home_of}
use Rattle.jn_base.proofs.laws.homes_exist.Goals as goal

pub returns : goal.returns
returns c p R u = home_of p R u
