use Rattle.jn_sem.proofs.Under.{bound_later, type_later}
use Rattle.jn_sem.proofs.Growth.{normal_later, below_later, closure_later}
use Rattle.jn_sem.proofs.laws.growth.Goals as goal

pub returns : goal.returns
returns c p s b f = record {
  bounds = bound_later f;
  fits = λ t g. type_later f g;
  normals = normal_later f;
  below = λ t u g. below_later f g;
  closure = λ t z g. closure_later f g;
}
