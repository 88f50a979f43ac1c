use Rattle.jn_sem_rows.proofs.TwoPrintsProof.{six_charges}
use Rattle.jn_sem_rows.proofs.run_examples.two_prints.Goals as goal

pub returns : goal.returns
returns c = six_charges
