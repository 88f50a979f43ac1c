use Rattle.jn_sem.proofs.SlotLaws.{slot_laws}
use Rattle.jn_sem.proofs.sharing.slot_laws.Goals as goal

pub returns : goal.returns
returns c = slot_laws
