use Rattle.std.proofs.Common.{length}
use Rattle.jn_parser.proofs.Passes.{Passing}
use Rattle.jn_parser.proofs.limits.passed_behind.Given as goal

abbrev pub invariant-word : goal.invariant-word
invariant-word l = Passing l.masks.keys l.is_mask l.rest l.words

abbrev pub decreases-word : goal.decreases-word
decreases-word l = length l.rest
