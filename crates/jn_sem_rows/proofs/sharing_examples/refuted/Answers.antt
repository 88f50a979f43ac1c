use Rattle.jn_sem_rows.proofs.RefutedProof.{refuted}
use Rattle.jn_sem_rows.proofs.sharing_examples.refuted.Goals as goal

pub returns : goal.returns
returns c = refuted
