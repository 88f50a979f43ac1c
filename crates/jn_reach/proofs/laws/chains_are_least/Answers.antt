use Rattle.jn_reach.specs.Chain.{here}
use Rattle.jn_reach.specs.Graph.{HasEdge}
use Rattle.jn_reach.specs.GraphLaws.{Passes}
use Rattle.jn_reach.proofs.Chains.{Chain-one, Chain-joined, Chain-least}
use Rattle.jn_reach.proofs.laws.chains_are_least.Goals as goal

pub returns : goal.returns
returns c g = record {
  holds = λ a b e. Chain-one (HasEdge g) e;
  reflexive = λ a. here;
  transitive = λ a b d p q. Chain-joined (HasEdge g) p q;
  least = λ test reflexive transitive holds a b p. Chain-least (HasEdge g) (Passes test) reflexive transitive holds p;
}
