use Rattle.std.proofs.Common.{◌≡◌, ◌++◌, drop, map}
use Rattle.jn_table.specs.Ups.{up_path}
use Rattle.jn_table.proofs.near.ups_of.Given as goal

abbrev pub invariant-loop-path : goal.invariant-loop-path
invariant-loop-path l = l.ups.items ++ map up_path (drop l.path-index l.paths) ≡ map up_path l.paths
