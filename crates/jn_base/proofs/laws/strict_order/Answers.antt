use Rattle.jn_base.specs.ClassOrder.{class_total}
use Rattle.jn_base.proofs.ClassOrders.{before_irreflexive, before_total}
use Rattle.jn_base.proofs.laws.strict_order.Goals as goal

pub returns : goal.returns
returns c p = record {
  irreflexive = before_irreflexive p;
  transitive = λ P Q R a b. (class_total p).trans P Q R a b;
  total = before_total p;
}
