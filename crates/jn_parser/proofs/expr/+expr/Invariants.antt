use Rattle.std.proofs.Common.{◌+◌, ◌*◌, length}
use Rattle.jn_base.specs.declared.word.Mark.TheVariants.{Comma, Dot}
use Rattle.jn_base.specs.declared.word.Word.TheVariants.{Mark as Marked}
use Rattle.jn_grammar.specs.Begins.{begins}
use Rattle.jn_grammar.specs.ReadExprs.{level, suffix_in, goes_on, link_in, arg_in}
use Rattle.jn_parser.specs.Levels.{operand_in}
use Rattle.jn_grammar.specs.Answers.{row}
use Rattle.jn_parser.proofs.Loops.{Rowed}
use Rattle.jn_parser.proofs.Heights.{height}
use Rattle.jn_parser.proofs.expr.+expr.Given as goal

abbrev pub decreases-shut_args : goal.decreases-shut_args
decreases-shut_args l = 60 * l.left + 1

abbrev pub decreases-viewed : goal.decreases-viewed
decreases-viewed l = 60 * l.left + 1

abbrev pub decreases-call_args : goal.decreases-call_args
decreases-call_args l = 60 * l.left + 2

abbrev pub decreases-call : goal.decreases-call
decreases-call l = 60 * l.left + 2

abbrev pub decreases-new_object : goal.decreases-new_object
decreases-new_object l = 60 * l.left + 3

abbrev pub decreases-super_call : goal.decreases-super_call
decreases-super_call l = 60 * l.left + 3

abbrev pub decreases-super_form : goal.decreases-super_form
decreases-super_form l = 60 * l.left + 4

abbrev pub decreases-suffix : goal.decreases-suffix
decreases-suffix l = 60 * l.left + 3

abbrev pub decreases-prim : goal.decreases-prim
decreases-prim l = 60 * l.left + 5

abbrev pub decreases-suffixes : goal.decreases-suffixes
decreases-suffixes l = 60 * l.left + 4

abbrev pub decreases-post : goal.decreases-post
decreases-post l = 60 * l.left + 6

abbrev pub decreases-unary : goal.decreases-unary
decreases-unary l = 60 * l.left + 7

abbrev pub decreases-expr : goal.decreases-expr
decreases-expr l = 60 * l.left + 42

abbrev pub decreases-arg : goal.decreases-arg
decreases-arg l = 60 * l.left + 43

abbrev pub decreases-more_args : goal.decreases-more_args
decreases-more_args l = 60 * l.left + 44

abbrev pub decreases-args : goal.decreases-args
decreases-args l = 60 * l.left + 45

abbrev pub decreases-expr_inside : goal.decreases-expr_inside
decreases-expr_inside l = 60 * l.left + 0

abbrev pub decreases-unary_inside : goal.decreases-unary_inside
decreases-unary_inside l = 60 * l.left + 0

abbrev pub decreases-operand_inside : goal.decreases-operand_inside
decreases-operand_inside l = 60 * l.left + 0

abbrev pub decreases-args_inside : goal.decreases-args_inside
decreases-args_inside l = 60 * l.left + 0

abbrev pub decreases-operand : goal.decreases-operand
decreases-operand l = 60 * l.left + (height l.level + 0)

abbrev pub decreases-link : goal.decreases-link
decreases-link l = 60 * l.left + (height l.level + 1)

abbrev pub decreases-links : goal.decreases-links
decreases-links l = 60 * l.left + (height l.level + 2)

abbrev pub decreases-chain : goal.decreases-chain
decreases-chain l = 60 * l.left + (height l.level + 3)

abbrev pub decreases-pair : goal.decreases-pair
decreases-pair l = 60 * l.left + (height l.level + 3)

abbrev pub invariant-suffixes-row : goal.invariant-suffixes-row
invariant-suffixes-row l = Rowed (begins (Marked Dot)) (suffix_in (level l.left)) l.found l.rest (row (begins (Marked Dot)) (suffix_in (level l.left)) 1 l.ts)

abbrev pub decreases-suffixes-row : goal.decreases-suffixes-row
decreases-suffixes-row l = length l.rest

abbrev pub invariant-links-row : goal.invariant-links-row
invariant-links-row l = Rowed (goes_on l.level) (link_in l.level (operand_in (level l.left) l.level)) l.found l.rest (row (goes_on l.level) (link_in l.level (operand_in (level l.left) l.level)) 1 l.ts)

abbrev pub decreases-links-row : goal.decreases-links-row
decreases-links-row l = length l.rest

abbrev pub invariant-more_args-row : goal.invariant-more_args-row
invariant-more_args-row l = Rowed (begins (Marked Comma)) (arg_in (level l.left)) l.found l.rest (row (begins (Marked Comma)) (arg_in (level l.left)) 1 l.ts)

abbrev pub decreases-more_args-row : goal.decreases-more_args-row
decreases-more_args-row l = length l.rest
