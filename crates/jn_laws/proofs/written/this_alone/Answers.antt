use Rattle.jn_laws.proofs.WrittenTypes.{this_is_alone}
use Rattle.jn_laws.proofs.written.this_alone.Goals as goal

pub returns : goal.returns
returns c = this_is_alone
