use Rattle.std.proofs.Common.{ap, refl, Err}
use Rattle.jn_drive.proofs.Means.{unstuck, outcome_told, broken_told, memory_told}
use Rattle.jn_drive.proofs.mean.run_and_tell.Goals as goal

pub tell_outcome-requires : goal.tell_outcome-requires
tell_outcome-requires g c = unstuck c.args.program.now _ _ _ c.in-Ok.outcome _ _ c.requires.limits c.requires.passes c.in-Ok.ensures.ran

pub returns-in-Ok : goal.returns-in-Ok
returns-in-Ok g c = outcome_told c.args.program.now _ _ _ _ _ c.in-Ok.outcome _ _ c.tell_outcome.result c.in-Ok.ensures.ran c.in-Ok.ensures.cause.kept c.tell_outcome.ensures

pub returns-in-Err-WriteFault : goal.returns-in-Err-WriteFault
returns-in-Err-WriteFault g c =
    let mean = c.in-Err-WriteFault.ensures in
    broken_told c.args.program.now _ _ _ _ _ mean.cut _ _ _ (mean.cause.failed (ap Err c.in-Err-WriteFault.field-0-is)) mean.cause.later refl refl

pub returns-in-Err-Memory : goal.returns-in-Err-Memory
returns-in-Err-Memory g c =
    let mean = c.in-Err-Memory.ensures in
    memory_told c.args.program.now _ _ _ _ _ mean.cut _ _ _ (mean.cause.no_memory (ap Err c.in-Err-Memory.field-0-is)) c.no_memory.ensures
