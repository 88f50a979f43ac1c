use Rattle.std.proofs.Common.{take, nat_eq}
use Rattle.indexmap.specs.IndexMap.{get}
use Rattle.jn_names.specs.ByName.{Adds}
use Rattle.jn_names.proofs.by_name.keep_at_each.Given as goal

abbrev pub invariant-loop-name : goal.invariant-loop-name
invariant-loop-name l = Adds (take l.name-index l.names) l.id (get nat_eq l.initial.lists) (get nat_eq l.lists)
