use Rattle.jn_base.specs.Supers.{itself}
use Rattle.jn_base.proofs.SuperLaws.{sup_joined}
use Rattle.jn_base.proofs.laws.supers_chain.Goals as goal

pub returns : goal.returns
returns c p = record { reflexive = λ R. itself; transitive = λ R S T a b. sup_joined a b }
