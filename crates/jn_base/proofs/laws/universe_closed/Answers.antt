use Rattle.jn_base.proofs.Reaching.{declared_in_universe, sup_in_universe, universe_depth}
use Rattle.jn_base.proofs.laws.universe_closed.Goals as goal

pub returns : goal.returns
returns c p = record {
  declared = λ R d. declared_in_universe p R d.decl d.stands;
  prefixes = λ P C D u. u.0;
  supers = λ R S u s. sup_in_universe s u;
  depth = universe_depth p;
}
