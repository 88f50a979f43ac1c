use Rattle.jn_check.proofs.Masking.{WithSoFar}
use Rattle.jn_check.proofs.masks.with_masks.Given as goal

abbrev pub invariant-loop-bind : goal.invariant-loop-bind
invariant-loop-bind l = WithSoFar l.fn.pool l.pool l.binds l.path l.masks l.bind-index l.all.items
