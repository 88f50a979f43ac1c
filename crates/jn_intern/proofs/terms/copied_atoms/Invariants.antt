use Rattle.std.proofs.Common.{◌≡◌, ◌++◌, drop}
use Rattle.jn_intern.proofs.terms.copied_atoms.Given as goal

abbrev pub invariant-loop-x : goal.invariant-loop-x
invariant-loop-x l = l.all ++ drop l.x-index l.xs ≡ l.xs
