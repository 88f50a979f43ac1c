use Rattle.std.proofs.Common.{length}
use Rattle.jn_base.specs.declared.word.Mark.TheVariants.{Backslash}
use Rattle.jn_base.specs.declared.word.Word.TheVariants.{Mark as Marked}
use Rattle.jn_grammar.specs.Begins.{begins}
use Rattle.jn_grammar.specs.Answers.{row}
use Rattle.jn_grammar.specs.ReadTypes.{mask_in}
use Rattle.jn_parser.proofs.Loops.{Rowed}
use Rattle.jn_parser.proofs.types.masks.Given as goal

abbrev pub invariant-row : goal.invariant-row
invariant-row l = Rowed (begins (Marked Backslash)) mask_in l.found l.rest (row (begins (Marked Backslash)) mask_in 1 l.ts)

abbrev pub decreases-row : goal.decreases-row
decreases-row l = length l.rest
