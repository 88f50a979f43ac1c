use Rattle.jn_laws.proofs.WrittenTypes.{targets_have_families}
use Rattle.jn_laws.proofs.written.targets_have_families.Goals as goal

pub returns : goal.returns
returns c = targets_have_families
