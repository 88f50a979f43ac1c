use Rattle.std.proofs.Common.{◌≡◌, ◌++◌, map, drop}
use Rattle.std.specs.Prelude.{codes}
use Rattle.jn_printer.specs.StmtText.{lines}
use Rattle.jn_printer.specs.DeclText.{member_text}
use Rattle.jn_printer.proofs.decls.+decl.Given as goal

abbrev pub invariant-print_members-loop-m : goal.invariant-print_members-loop-m
invariant-print_members-loop-m l =
    l.out.items ++ lines l.inner.items (map (member_text l.names l.texts) (drop l.m-index l.members))
    ≡ l.fn.out.items ++ (codes "{\n" ++ lines l.inner.items (map (member_text l.names l.texts) l.members))
