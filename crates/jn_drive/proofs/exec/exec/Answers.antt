use Rattle.jn_drive.specs.declared.words.JobKind.TheVariants as kinds
use Rattle.jn_drive.proofs.Running.{does, keeps}
use Rattle.jn_drive.proofs.Coming.{no_machine, machine_runs}
use Rattle.jn_drive.proofs.exec.exec.Goals as goal

pub returns-in-Ok : goal.returns-in-Ok
returns-in-Ok g c =
    let told = c.run_and_tell.ensures in
    does _ _ _ told.0 _ (machine_runs _ _ _ c.in-Ok.machine told.0 c.requires c.in-Ok.ensures.loads told.1) told.2 (λ b. absurd (keeps _ (kinds.Exec) c.requires tt b)) c.in-Ok.ensures.files c.in-Ok.ensures.saves c.in-Ok.ensures.later

pub returns-in-Err : goal.returns-in-Err
returns-in-Err g c = does _ _ _ _ _ (no_machine _ _ _ c.in-Err.halt c.requires c.in-Err.ensures.loads) c.deliver.ensures (λ b. absurd (keeps _ (kinds.Exec) c.requires tt b)) c.in-Err.ensures.files c.in-Err.ensures.saves c.in-Err.ensures.later
