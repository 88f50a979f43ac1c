use Rattle.jn_sem_rows.proofs.FieldsProof.{new_objects}
use Rattle.jn_sem_rows.proofs.sharing_examples.new_objects.Goals as goal

pub returns : goal.returns
returns c = new_objects
