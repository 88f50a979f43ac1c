use Rattle.jn_sem_rows.proofs.MaskedSideProof.{masked_side}
use Rattle.jn_sem_rows.proofs.sharing_examples.masked_side.Goals as goal

pub returns : goal.returns
returns c = masked_side
