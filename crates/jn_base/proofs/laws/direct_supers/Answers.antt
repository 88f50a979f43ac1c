use Rattle.jn_base.proofs.SuperLaws.{direct_cases, direct_above}
use Rattle.jn_base.proofs.laws.direct_supers.Goals as goal

pub returns : goal.returns
returns c p P C S = (λ d. direct_cases d, λ a. direct_above a)
