use Rattle.std.proofs.Common.{All, take}
use Rattle.jn_sem.specs.LawsOfSlots.{HeadNamed}
use Rattle.jn_heads.proofs.written.are_named.Given as goal

abbrev pub invariant-loop-term : goal.invariant-loop-term
invariant-loop-term l = All (λ t. HeadNamed t.head) (take l.term-index l.terms)
