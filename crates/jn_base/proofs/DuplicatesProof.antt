-- The example of names that stand twice.
use Rattle.std.proofs.Common.{◌≡◌}
use Rattle.jn_base.specs.declared.tree.Member.TheVariants.{outs-Inner, outs-Slot, outs-Body}
use Rattle.jn_base.specs.declared.tree.Stmt.{Stmt, out-Stmt}
use Rattle.jn_base.specs.declared.tree.Stmt.TheVariants.{outs-Block, outs-Local, outs-If}
use Rattle.jn_base.specs.declared.tree.Stmt.TheFolds.{fold_out-Stmt, map-Stmt}
use Rattle.jn_base.specs.Duplicates.{in_stmt, InStmt, stmt_step}
use Rattle.jn_base.specs.DuplicatesExample.{DuplicatesExample}
use Rattle.jn_base.proofs.Unique.{decl_opened, member_opened}

stmt_opened : (s : Stmt) → in_stmt s ≡ stmt_step (map-Stmt _ _ in_stmt (out-Stmt s))
stmt_opened s = fold_out-Stmt InStmt stmt_step s

pub twice_shown : DuplicatesExample
twice_shown = record {
  none = simp (decl_opened, member_opened, outs-Inner, outs-Slot, outs-Body);
  fields = simp (decl_opened, member_opened, outs-Inner, outs-Slot, outs-Body);
  classes = simp (decl_opened, member_opened, outs-Inner, outs-Slot, outs-Body);
  nested = simp (decl_opened, member_opened, outs-Inner, outs-Slot, outs-Body);
  locals = simp (decl_opened, member_opened, stmt_opened, outs-Inner, outs-Slot, outs-Body, outs-Block, outs-Local, outs-If);
}
