use Rattle.std.proofs.Common.{true, ◌+◌, ◌≤◌, length}
use Rattle.jn_base.specs.declared.word.Mark.TheVariants.{Comma}
use Rattle.jn_base.specs.declared.word.Word.TheVariants.{Mark as Marked}
use Rattle.jn_grammar.specs.Begins.{begins}
use Rattle.jn_grammar.specs.Answers.{row}
use Rattle.jn_grammar.specs.ReadDecls.{next_param_in}
use Rattle.jn_parser.proofs.Loops.{Rowing}
use Rattle.jn_parser.proofs.decl.next_params.Given as goal

abbrev pub invariant-row : goal.invariant-row
invariant-row l = Rowing (begins (Marked Comma)) (next_param_in true l.left) l.k l.found l.rest (row (begins (Marked Comma)) (next_param_in true l.left) 2 l.ts) × (l.k + length l.rest ≤ 2 + length l.ts)

abbrev pub decreases-row : goal.decreases-row
decreases-row l = length l.rest
