use Rattle.std.proofs.Common.{drop, List}
use Rattle.jn_base.specs.declared.names.Var.{Var}
use Rattle.jn_lower.specs.declared.walk.Walk.{Walk}
use Rattle.jn_lower.specs.Known.{Extends}
use Rattle.jn_lower.specs.Walks.{LowersStmts}
use Rattle.jn_lower.proofs.walk_stmts.+stmts.Given as goal

abbrev pub invariant-stmts-loop-s : goal.invariant-stmts-loop-s
invariant-stmts-loop-s l = record {
  goes : (xs : List Var) (new : Walk) → LowersStmts l.g (drop l.s-index l.ss) l.known.list xs l.w new
      → LowersStmts l.g l.ss l.fn.known.list xs l.fn.w new;
  extends : Extends l.fn.known.list l.known.list;
}
