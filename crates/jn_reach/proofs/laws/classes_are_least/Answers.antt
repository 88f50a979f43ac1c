use Rattle.jn_reach.specs.Equivalent.{pair}
use Rattle.jn_reach.specs.GraphLaws.{Passes}
use Rattle.jn_reach.specs.Pairs.{IsPair}
use Rattle.jn_reach.proofs.Chains.{Equivalent-equivalence, Equivalent-least}
use Rattle.jn_reach.proofs.laws.classes_are_least.Goals as goal

pub returns : goal.returns
returns c pairs = record {
  holds = λ a b e. pair e;
  equivalence = Equivalent-equivalence (IsPair pairs);
  least = λ test equivalence holds a b q. Equivalent-least (IsPair pairs) (Passes test) equivalence holds q;
}
