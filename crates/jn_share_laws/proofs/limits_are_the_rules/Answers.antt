use Rattle.jn_share_laws.proofs.Limited.{limits_agree}
use Rattle.jn_share_laws.proofs.limits_are_the_rules.Goals as goal

pub returns : goal.returns
returns c p m = limits_agree p m
