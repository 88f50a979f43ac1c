use Rattle.std.proofs.Common.{◌≡◌, map, take}
use Rattle.jn_meaning.specs.Leaving.{untyped}
use Rattle.jn_meaning.proofs.leaving.untyped.Given as goal

abbrev pub invariant-loop-i : goal.invariant-loop-i
invariant-loop-i l = record {
  vars : l.all.vars.list ≡ map untyped (take l.i l.locals.vars.list);
  values : l.all.values.items ≡ take l.i l.locals.values.items;
}
