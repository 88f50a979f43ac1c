use Rattle.std.proofs.Common.{◌≡◌, ◌++◌, drop, false}
use Rattle.std.specs.Prelude.{codes}
use Rattle.jn_printer.specs.Pieces.{joined}
use Rattle.jn_printer.specs.DeclText.{constraint_text}
use Rattle.jn_printer.proofs.decls.print_constraints.Given as goal

abbrev pub invariant-loop-c : goal.invariant-loop-c
invariant-loop-c l = l.out.items ++ joined (constraint_text l.names) (codes ", ") l.later (drop l.c-index l.constraints) ≡ l.fn.out.items ++ joined (constraint_text l.names) (codes ", ") false l.constraints
