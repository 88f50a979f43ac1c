use Rattle.jn_base.proofs.Reaching.{reach_super, reach_joined, reach_in_universe}
use Rattle.jn_base.proofs.laws.reach_closed.Goals as goal

pub returns : goal.returns
returns c p q = record {
  supers = λ R S r s. reach_super s r;
  joined = λ R S r s. reach_joined r s;
  universe = λ R u r. reach_in_universe u r;
}
