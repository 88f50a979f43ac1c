use Rattle.std.proofs.Common.{◌≡◌, length}
use Rattle.jn_intern.specs.Pools.{Keeps}
use Rattle.jn_header.proofs.BodyRows.{HeadRowsTo}
use Rattle.jn_header.proofs.bodies.head_rows.Given as goal

abbrev pub invariant-loop-k : goal.invariant-loop-k
invariant-loop-k l = HeadRowsTo l.p l.fn.t.known.items l.rows.items l.k × (length l.rows.items ≡ l.k) × (l.t ≡ l.fn.t) × Keeps l.fn.pool l.pool
