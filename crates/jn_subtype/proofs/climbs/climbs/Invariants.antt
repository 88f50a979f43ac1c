use Rattle.std.proofs.Common.{All, []}
use Rattle.jn_intern.specs.Pools.{scope_in}
use Rattle.jn_sem.specs.Search.{climbed}
use Rattle.jn_subtype.specs.Older.{IsAsOld}
use Rattle.jn_subtype.specs.Turns.{Adds}
use Rattle.jn_subtype.proofs.Addings.{Upto}
use Rattle.jn_subtype.proofs.climbs.climbs.Given as goal

abbrev pub invariant-loop-i : goal.invariant-loop-i
invariant-loop-i l = record {
  found : Adds (Upto (climbed (scope_in l.pool l.scope) l.x) l.i) [] l.all.items;
  old : All (IsAsOld (scope_in l.pool l.scope) l.x) l.all.items;
}
