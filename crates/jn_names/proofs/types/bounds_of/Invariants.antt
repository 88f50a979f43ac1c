use Rattle.std.proofs.Common.{◌≡◌, take}
use Rattle.jn_base.specs.ResolveTypes.{bounds_at}
use Rattle.jn_names.proofs.types.bounds_of.Given as goal

abbrev pub invariant-loop-x : goal.invariant-loop-x
invariant-loop-x l = l.bounds.items ≡ bounds_at l.spot l.vars (take l.x-index l.atoms)
