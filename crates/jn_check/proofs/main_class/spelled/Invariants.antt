use Rattle.jn_check.proofs.Mains.{NoneSpelled}
use Rattle.jn_check.proofs.main_class.spelled.Given as goal

abbrev pub invariant-loop-i : goal.invariant-loop-i
invariant-loop-i l = NoneSpelled l.p.names l.bytes l.i
