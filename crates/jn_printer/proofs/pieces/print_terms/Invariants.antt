use Rattle.std.proofs.Common.{◌≡◌, ◌++◌, drop, false}
use Rattle.std.specs.Prelude.{codes}
use Rattle.jn_printer.specs.Pieces.{joined, term_text}
use Rattle.jn_printer.proofs.pieces.print_terms.Given as goal

abbrev pub invariant-loop-t : goal.invariant-loop-t
invariant-loop-t l = l.out.items ++ joined (term_text l.names) (codes " & ") l.later (drop l.t-index l.terms) ≡ l.fn.out.items ++ joined (term_text l.names) (codes " & ") false l.terms
