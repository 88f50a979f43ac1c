use Rattle.std.proofs.Common.{true, ◌+◌, ◌*◌, length}
use Rattle.jn_grammar.specs.ReadStmts.{in_body, stmt_in, stmts_in, stmts_of}
use Rattle.jn_parser.proofs.Loops.{Counting}
use Rattle.jn_parser.proofs.stmt.+stmt.Given as goal

abbrev pub decreases-stmts_inside : goal.decreases-stmts_inside
decreases-stmts_inside l = 8 * l.left

abbrev pub decreases-block : goal.decreases-block
decreases-block l = 8 * l.left + 1

abbrev pub decreases-otherwise : goal.decreases-otherwise
decreases-otherwise l = 8 * l.left + 2

abbrev pub decreases-choice : goal.decreases-choice
decreases-choice l = 8 * l.left + 3

abbrev pub decreases-turns : goal.decreases-turns
decreases-turns l = 8 * l.left + 3

abbrev pub decreases-block_stmt : goal.decreases-block_stmt
decreases-block_stmt l = 8 * l.left + 3

abbrev pub decreases-stmt : goal.decreases-stmt
decreases-stmt l = 8 * l.left + 4

abbrev pub decreases-stmts : goal.decreases-stmts
decreases-stmts l = 8 * l.left + 5

abbrev pub invariant-stmts-row : goal.invariant-stmts-row
invariant-stmts-row l = Counting in_body (stmt_in true l.left (stmts_of true l.left)) l.used l.found l.rest (stmts_in true l.left (stmts_of true l.left) l.fn.used l.ts)

abbrev pub decreases-stmts-row : goal.decreases-stmts-row
decreases-stmts-row l = length l.rest
