use Rattle.std.proofs.Common.{drop, reverse}
use Rattle.jn_homes.specs.Homes.{OnWay}
use Rattle.jn_homes.proofs.homes.go_down.Given as goal

abbrev pub invariant-loop-level : goal.invariant-loop-level
invariant-loop-level l = OnWay l.p (reverse l.path.names) l.decl (drop l.level l.left)
