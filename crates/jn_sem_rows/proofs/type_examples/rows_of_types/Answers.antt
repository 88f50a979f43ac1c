use Rattle.jn_sem_rows.proofs.TypesProof.{bounds, sets, values, normals, steps, closure}
use Rattle.jn_sem_rows.proofs.type_examples.rows_of_types.Goals as goal

pub returns : goal.returns
returns c = record { bounds = bounds; sets = sets; values = values; normals = normals; steps = steps; closure = closure }
