use Rattle.jn_sem_rows.proofs.FieldsProof.{field_views}
use Rattle.jn_sem_rows.proofs.sharing_examples.field_views.Goals as goal

pub returns : goal.returns
returns c = field_views
