use Rattle.std.proofs.Common.{◌≡◌, ◌++◌, drop}
use Rattle.std.specs.Prelude.{codes}
use Rattle.jn_printer.specs.Pieces.{joined, named_text, names_text}
use Rattle.jn_printer.proofs.pieces.print_names.Given as goal

abbrev pub invariant-loop-x : goal.invariant-loop-x
invariant-loop-x l = l.out.items ++ joined (named_text l.names) (codes " & ") l.later (drop l.x-index l.listed) ≡ l.fn.out.items ++ names_text l.names l.listed
