use Rattle.std.proofs.Common.{◌+◌, ◌*◌, length}
use Rattle.jn_meaning.proofs.bounds.+bounds.Given as goal

abbrev pub decreases-anchor_bound : goal.decreases-anchor_bound
decreases-anchor_bound l = 4 * length l.vars.now + 1

abbrev pub decreases-atom_bound : goal.decreases-atom_bound
decreases-atom_bound l = 4 * length l.vars.now + 2

abbrev pub decreases-first_bound : goal.decreases-first_bound
decreases-first_bound l = 4 * length l.vars.now + 3

abbrev pub decreases-path_bound : goal.decreases-path_bound
decreases-path_bound l = 4 * length l.vars.now
