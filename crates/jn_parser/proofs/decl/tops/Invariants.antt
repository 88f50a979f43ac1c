use Rattle.std.proofs.Common.{true, length}
use Rattle.jn_grammar.specs.Answers.{row}
use Rattle.jn_grammar.specs.ReadDecls.{in_file, top_in}
use Rattle.jn_parser.proofs.Loops.{Rowed}
use Rattle.jn_parser.proofs.decl.tops.Given as goal

abbrev pub invariant-row : goal.invariant-row
invariant-row l = Rowed in_file (top_in true l.left) l.found l.rest (row in_file (top_in true l.left) 1 l.ts)

abbrev pub decreases-row : goal.decreases-row
decreases-row l = length l.rest
