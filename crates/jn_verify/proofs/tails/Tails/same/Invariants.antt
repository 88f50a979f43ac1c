use Rattle.std.proofs.Common.{◌≡◌, ◌<◌, length}
use Rattle.jn_code.specs.Valid.{kinds_eq}
use Rattle.jn_verify.specs.Tails.{list_at}
use Rattle.jn_verify.proofs.tails.Tails.same.Given as goal

abbrev pub invariant-loop-m : goal.invariant-loop-m
invariant-loop-m l = record {
  m_in : l.m < length l.self;
  n_in : l.n < length l.self;
  rest : kinds_eq (list_at l.self l.m) (list_at l.self l.n) ≡ kinds_eq (list_at l.self l.a) (list_at l.self l.b);
}

abbrev pub decreases-loop-m : goal.decreases-loop-m
decreases-loop-m l = l.m
