use Rattle.jn_sem_rows.proofs.DeepSlotsProof.{deep_slots_are}
use Rattle.jn_sem_rows.proofs.sharing_examples.deep_slots.Goals as goal

pub returns : goal.returns
returns c = deep_slots_are
