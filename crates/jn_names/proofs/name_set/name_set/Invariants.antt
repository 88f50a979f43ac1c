use Rattle.std.proofs.Common.{take}
use Rattle.jn_names.proofs.NameSets.{HasNames}
use Rattle.jn_names.proofs.name_set.name_set.Given as goal

abbrev pub invariant-loop-name : goal.invariant-loop-name
invariant-loop-name l = HasNames l.set.keys (take l.name-index l.names)
