use Rattle.std.proofs.Common.{true, ◌+◌, ◌*◌, length}
use Rattle.jn_grammar.specs.ReadStmts.{in_body}
use Rattle.jn_grammar.specs.ReadDecls.{member_in, members_in, members_of}
use Rattle.jn_parser.proofs.Loops.{Rowed}
use Rattle.jn_parser.proofs.decl.+member.Given as goal

abbrev pub decreases-members_inside : goal.decreases-members_inside
decreases-members_inside l = 8 * l.left + 0

abbrev pub decreases-body : goal.decreases-body
decreases-body l = 8 * l.left + 1

abbrev pub decreases-inner : goal.decreases-inner
decreases-inner l = 8 * l.left + 2

abbrev pub decreases-member : goal.decreases-member
decreases-member l = 8 * l.left + 3

abbrev pub decreases-members : goal.decreases-members
decreases-members l = 8 * l.left + 4

abbrev pub invariant-members-row : goal.invariant-members-row
invariant-members-row l = Rowed in_body (member_in true l.left (members_of true l.left) l.kind l.depth) l.found l.rest (members_in true l.left (members_of true l.left) l.kind l.depth l.ts)

abbrev pub decreases-members-row : goal.decreases-members-row
decreases-members-row l = length l.rest
