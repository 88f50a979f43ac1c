use Rattle.jn_base.proofs.TableLaws.{universe_named}
use Rattle.jn_base.proofs.laws.universe_named.Goals as goal

pub returns : goal.returns
returns c p n R u = universe_named p n R u
