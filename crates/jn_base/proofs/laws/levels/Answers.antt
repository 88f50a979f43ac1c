use Rattle.jn_base.proofs.SuperLaws.{sup_level, sup_prefix}
use Rattle.jn_base.proofs.laws.levels.Goals as goal

pub returns : goal.returns
returns c p R S s = record { depth = sup_level s; prefixes = λ k. sup_prefix k s }
