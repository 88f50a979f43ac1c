use Rattle.std.proofs.Common.{◌≡◌, ◌++◌, drop, false}
use Rattle.std.specs.Prelude.{codes}
use Rattle.jn_printer.specs.Pieces.{joined}
use Rattle.jn_printer.specs.DeclText.{param_text}
use Rattle.jn_printer.proofs.decls.print_params.Given as goal

abbrev pub invariant-loop-p : goal.invariant-loop-p
invariant-loop-p l = l.out.items ++ joined (param_text l.names) (codes ", ") l.later (drop l.p-index l.params) ≡ l.fn.out.items ++ (codes "(" ++ joined (param_text l.names) (codes ", ") false l.params)
