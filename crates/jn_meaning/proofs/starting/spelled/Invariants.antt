use Rattle.jn_meaning.proofs.Begins.{NoneSpelled}
use Rattle.jn_meaning.proofs.starting.spelled.Given as goal

abbrev pub invariant-loop-i : goal.invariant-loop-i
invariant-loop-i l = NoneSpelled l.p.names l.bytes l.i
