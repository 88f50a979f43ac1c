use Rattle.jn_exec.proofs.ImageLaws.{read_fault, image_fault, machine_for}
use Rattle.jn_exec.proofs.loading.load.Goals as goal

pub returns-in-Err-clause-fault : goal.returns-in-Err-clause-fault
returns-in-Err-clause-fault c = read_fault _ _ c.in-Err.ensures.exact

pub returns-in-Err-verify-clause-fault : goal.returns-in-Err-verify-clause-fault
returns-in-Err-verify-clause-fault c = image_fault _ _ _ c.in-Ok.ensures.exact c.in-Err-verify.ensures.err

pub returns-in-Ok-make-clause-machine : goal.returns-in-Ok-make-clause-machine
returns-in-Ok-make-clause-machine c = machine_for _ _ _ _ _ _ c.in-Ok.ensures.exact c.in-Ok-verify.ensures.ok c.in-Ok-make.ensures
