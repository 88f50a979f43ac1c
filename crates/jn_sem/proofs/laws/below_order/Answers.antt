use Rattle.jn_sem.specs.Below.{ints, booleans}
use Rattle.jn_sem.proofs.BelowOrder.{below_itself, below_joined}
use Rattle.jn_sem.proofs.laws.below_order.Goals as goal

pub returns : goal.returns
returns c p s = record {
  ints = ints;
  booleans = booleans;
  classes = below_itself;
  joined = λ t u w. below_joined;
}
