use Rattle.std.proofs.Common.{◌+◌, ◌*◌, length}
use Rattle.jn_subtype.proofs.bounds.+bounds.Given as goal

abbrev pub decreases-bound_of_anchor : goal.decreases-bound_of_anchor
decreases-bound_of_anchor l = 4 * length l.binds.now + 1

abbrev pub decreases-bound_of_atom : goal.decreases-bound_of_atom
decreases-bound_of_atom l = 4 * length l.binds.now + 2

abbrev pub decreases-bound_of_first : goal.decreases-bound_of_first
decreases-bound_of_first l = 4 * length l.binds.now + 3

abbrev pub decreases-bound_of_path : goal.decreases-bound_of_path
decreases-bound_of_path l = 4 * length l.binds.now
