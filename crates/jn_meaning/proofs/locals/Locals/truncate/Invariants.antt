use Rattle.std.proofs.Common.{◌≡◌, take, vec_len}
use Rattle.jn_meaning.proofs.locals.Locals.truncate.Given as goal

abbrev pub invariant-loop-self : goal.invariant-loop-self
invariant-loop-self l = record {
  vars : take l.n l.self.vars.list ≡ take l.n l.fn.self.vars.list;
  values : take l.n l.self.values.items ≡ take l.n l.fn.self.values.items;
}

abbrev pub decreases-loop-self : goal.decreases-loop-self
decreases-loop-self l = vec_len l.self.values
