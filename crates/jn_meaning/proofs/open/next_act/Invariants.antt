use Rattle.std.proofs.Common.{◌≡◌}
use Rattle.jn_meaning.specs.Work.{todo_in}
use Rattle.jn_meaning.proofs.open.next_act.Given as goal

abbrev pub invariant-loop : goal.invariant-loop
invariant-loop l = todo_in l.work ≡ todo_in l.fn.work
