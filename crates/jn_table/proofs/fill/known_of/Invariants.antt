use Rattle.std.proofs.Common.{◌≡◌, ◌++◌, drop, map}
use Rattle.jn_base.specs.Paths.{shown}
use Rattle.jn_table.proofs.fill.known_of.Given as goal

abbrev pub invariant-loop-path : goal.invariant-loop-path
invariant-loop-path l = l.known.items ++ map shown (drop l.path-index l.paths) ≡ map shown l.paths
