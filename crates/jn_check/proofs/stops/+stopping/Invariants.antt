use Rattle.std.proofs.Common.{◌≡◌, drop}
use Rattle.jn_rules.specs.Stmts.{all_stop}
use Rattle.jn_check.proofs.stops.+stopping.Given as goal

abbrev pub invariant-all_stop-loop-s : goal.invariant-all_stop-loop-s
invariant-all_stop-loop-s l = all_stop l.ss ≡ all_stop (drop l.s-index l.ss)
