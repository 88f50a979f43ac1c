use Rattle.std.proofs.Common.{refl}
use Rattle.jn_drive.specs.Words.{numbered}
use Rattle.jn_drive.proofs.BigRuns.{big_does}
use Rattle.jn_drive.proofs.job.do_job.Goals as goal

pub returns-in-Big : goal.returns-in-Big
returns-in-Big g c = let told = c.run_big.ensures in rw c.in-Big.is (big_does (numbered c.in-Big.words) _ _ _ told.0 told.1 told.2 refl)
