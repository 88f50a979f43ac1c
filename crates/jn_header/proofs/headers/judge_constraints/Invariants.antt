use Rattle.jn_rules.specs.Headers.{constraint_asked}
use Rattle.jn_heads.proofs.Turns.{TurnsFrom}
use Rattle.jn_header.proofs.headers.judge_constraints.Given as goal
use Rattle.std.proofs.Common.{◌≡◌}

abbrev pub invariant-loop-constraint : goal.invariant-loop-constraint
invariant-loop-constraint l = TurnsFrom l.p (constraint_asked l.class l.m) l.constraints l.constraint-index × (l.t ≡ l.fn.t)
