use Rattle.std.proofs.Common.{◌≡◌, ◌++◌, map, drop}
use Rattle.std.specs.Prelude.{codes}
use Rattle.jn_printer.specs.StmtText.{lines, stmt_text}
use Rattle.jn_printer.proofs.stmts.+stmt.Given as goal

abbrev pub invariant-print_body-loop-s : goal.invariant-print_body-loop-s
invariant-print_body-loop-s l =
    l.out.items ++ lines l.inner.items (map (stmt_text l.names l.texts) (drop l.s-index l.body))
    ≡ l.fn.out.items ++ (codes "{\n" ++ lines l.inner.items (map (stmt_text l.names l.texts) l.body))
