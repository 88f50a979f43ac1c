use Rattle.jn_code.proofs.Safe.{stays_going}
use Rattle.jn_code.proofs.law.stays_going.Goals as goal

pub returns : goal.returns
returns c = stays_going
