use Rattle.std.proofs.Common.{◌≡◌, ◌++◌, [], map, drop}
use Rattle.jn_printer.specs.StmtText.{lines}
use Rattle.jn_printer.specs.DeclText.{decl_text}
use Rattle.jn_printer.proofs.print_program.Given as goal

abbrev pub invariant-loop-d : goal.invariant-loop-d
invariant-loop-d l =
    l.out.items ++ lines [] (map (decl_text l.names l.texts) (drop l.d-index l.decls)) ≡ lines [] (map (decl_text l.names l.texts) l.decls)
