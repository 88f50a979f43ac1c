use Rattle.jn_base.proofs.TreeTwice.{found_twice, twice_found}
use Rattle.jn_base.proofs.laws.duplicates_are_twice.Goals as goal

pub returns : goal.returns
returns c p r = (λ h. found_twice p r h, λ t. twice_found p r t)
