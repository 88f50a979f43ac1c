use Rattle.std.proofs.Common.{ℕ, Contains, IsTrue}
use Rattle.jn_reach.specs.Derived.{seed, rule}
use Rattle.jn_reach.specs.Pairs.{IsPair}
use Rattle.jn_reach.proofs.Chains.{Derived-least}
use Rattle.jn_reach.proofs.laws.sets_are_least.Goals as goal

pub returns : goal.returns
returns c seeds rules = record {
  holds = λ a s. seed s;
  closed = λ a b d e. rule d e;
  least = λ test holds closed a d. Derived-least (Contains seeds) (IsPair rules) (λ (x : ℕ). IsTrue (test x)) holds closed d;
}
