use Rattle.jn_sem.specs.LawsOfTypes.{Passes}
use Rattle.jn_sem.proofs.Widenings.{step_in, last_in}
use Rattle.jn_sem.proofs.TypeSets.{types_below, values_below, types_closure}
use Rattle.jn_sem.proofs.laws.widening.Goals as goal

pub returns : goal.returns
returns c p s v f r = record {
  step = step_in f r;
  below = types_below f r;
  values = λ names filled. values_below f r names (Passes filled);
  closure = types_closure f r;
  last = last_in f r;
}
