use Rattle.std.proofs.Common.{◌++◌}
use Rattle.jn_reach.proofs.Searches.{NoneBefore}
use Rattle.jn_share.specs.Atoms.{HasNames}
use Rattle.jn_share.proofs.atoms.some_path.Given as goal

abbrev pub invariant-loop-id : goal.invariant-loop-id
invariant-loop-id l = NoneBefore (HasNames l.t.known.items (l.a ++ (l.b ++ l.c))) l.ids l.id-index
