use Rattle.jn_meaning.proofs.Ends.{SettledTo}
use Rattle.jn_meaning.proofs.settling.settle.Given as goal

abbrev pub invariant-loop-turn : goal.invariant-loop-turn
invariant-loop-turn l = SettledTo l.fn.now l.fn.waiting.items l.now l.waiting.items l.turn
