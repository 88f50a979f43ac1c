use Rattle.jn_reach.specs.Pairs.{IsPair, AreFirsts}
use Rattle.jn_reach.proofs.pairs.class_firsts.Given as goal

abbrev pub invariant-loop-origin : goal.invariant-loop-origin
invariant-loop-origin l = AreFirsts (IsPair l.fn.pairs) l.origin-index l.firsts.items
