use Rattle.rows_mean.proofs.Sources.{within_limits}
use Rattle.rows_mean.proofs.running.run.Goals as goal

pub run_program-requires : goal.run_program-requires
run_program-requires g c = within_limits _ _ c.in-Ok.ensures.found
