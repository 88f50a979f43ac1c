use Rattle.std.proofs.Common.{◌≡◌}
use Rattle.jn_intern.specs.Pools.{Keeps}
use Rattle.jn_header.specs.Asked.{header_at}
use Rattle.jn_heads.proofs.Turns.{TurnsFrom}
use Rattle.jn_header.proofs.headers.+headers.Given as goal

abbrev pub invariant-judge_members-loop-m : goal.invariant-judge_members-loop-m
invariant-judge_members-loop-m l = TurnsFrom l.p (header_at l.class) l.members l.m-index × (l.t ≡ l.fn.t) × Keeps l.fn.pool l.pool
