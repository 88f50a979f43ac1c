use Rattle.jn_drive.specs.Words.{named}
use Rattle.jn_drive.proofs.Coming.{machine_loaded, fault_loaded}
use Rattle.jn_drive.proofs.exec.loaded.Goals as goal

pub returns-in-Ok-clause-loads : goal.returns-in-Ok-clause-loads
returns-in-Ok-clause-loads g c =
    let read = rw c.as_str.ensures.value at c.in_ok-bytes.ensures.read in
    machine_loaded (named c.args.job.now) _ _ _ _ _ _ c.requires read (rw (← c.as_slice.ensures) c.in-Ok.ensures.machine)

pub returns-clause-loads : goal.returns-clause-loads
returns-clause-loads g c =
    let read = rw c.as_str.ensures.value at c.in_ok-bytes.ensures.read in
    fault_loaded (named c.args.job.now) _ _ _ _ _ c.in-Err.fault c.bad_image.result c.requires read (rw (← c.as_slice.ensures) c.in-Err.ensures.fault) c.bad_image.ensures
