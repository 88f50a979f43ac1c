use Rattle.std.proofs.Common.{◌≡◌}
use Rattle.jn_intern.specs.Pools.{Keeps}
use Rattle.jn_header.specs.Asked.{headers_in_space}
use Rattle.jn_heads.proofs.Turns.{TurnsFrom}
use Rattle.jn_header.proofs.headers.judge_decls.Given as goal

abbrev pub invariant-loop-d : goal.invariant-loop-d
invariant-loop-d l = TurnsFrom l.p (headers_in_space l.namespace) l.decls l.d-index × (l.t ≡ l.fn.t) × Keeps l.fn.pool l.pool
