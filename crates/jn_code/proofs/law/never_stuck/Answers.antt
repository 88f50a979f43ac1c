use Rattle.jn_code.proofs.Safe.{never_stuck}
use Rattle.jn_code.proofs.law.never_stuck.Goals as goal

pub returns : goal.returns
returns c = never_stuck
