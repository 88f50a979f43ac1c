use Rattle.std.proofs.Common.{length}
use Rattle.jn_base.specs.declared.word.Mark.TheVariants.{Comma}
use Rattle.jn_base.specs.declared.word.Word.TheVariants.{Mark as Marked}
use Rattle.jn_grammar.specs.Begins.{begins}
use Rattle.jn_grammar.specs.Answers.{row}
use Rattle.jn_grammar.specs.ReadDecls.{next_rel_in}
use Rattle.jn_parser.proofs.Loops.{Rowed}
use Rattle.jn_parser.proofs.decl.next_rels.Given as goal

abbrev pub invariant-row : goal.invariant-row
invariant-row l = Rowed (begins (Marked Comma)) (next_rel_in l.left) l.found l.rest (row (begins (Marked Comma)) (next_rel_in l.left) 1 l.ts)

abbrev pub decreases-row : goal.decreases-row
decreases-row l = length l.rest
