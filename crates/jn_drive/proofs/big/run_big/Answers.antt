use Rattle.jn_drive.specs.Words.{numbered}
use Rattle.jn_drive.proofs.BigRuns.{sum_told, halt_told}
use Rattle.jn_drive.proofs.big.run_big.Goals as goal

pub returns-in-Ok : goal.returns-in-Ok
returns-in-Ok g c = sum_told (numbered c.args.words.now) c.requires c.in-Ok.machine c.in-Ok.classes c.in-Ok.ensures _ _ _ _ _ c.tell_sum.ensures

pub returns-in-Err : goal.returns-in-Err
returns-in-Err g c = halt_told (numbered c.args.words.now) c.in-Err.halt _ _ _ _ _ c.in-Err.ensures c.deliver.ensures
