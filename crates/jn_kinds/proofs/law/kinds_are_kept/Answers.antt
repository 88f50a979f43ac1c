use Rattle.jn_kinds.proofs.Keeps.{kept_in_runs}
use Rattle.jn_kinds.proofs.law.kinds_are_kept.Goals as goal

pub returns : goal.returns
returns c = kept_in_runs
