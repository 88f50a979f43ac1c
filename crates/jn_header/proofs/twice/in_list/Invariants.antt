use Rattle.std.proofs.Common.{[]}
use Rattle.jn_base.specs.declared.tree.Named.{Named}
use Rattle.jn_header.proofs.TwiceSteps.{Left}
use Rattle.jn_header.proofs.twice.in_list.Given as goal

abbrev pub invariant-loop-named : goal.invariant-loop-named
invariant-loop-named l = Left (λ (n : Named). n) [] l.list l.named-index l.seen.items
