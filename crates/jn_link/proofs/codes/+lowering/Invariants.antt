use Rattle.std.proofs.Common.{map, take}
use Rattle.jn_base.specs.Paths.{Path}
use Rattle.jn_layout.specs.Shapes.{all_bodies, bodies_in}
use Rattle.jn_link.specs.Codes.{LowersAll}
use Rattle.jn_link.proofs.codes.+lowering.Given as goal

abbrev pub invariant-lower_members-loop-m : goal.invariant-lower_members-loop-m
invariant-lower_members-loop-m l =
    (R : Path) → LowersAll l.g (all_bodies R (map bodies_in (take l.m-index l.members))) l.fn.out l.out
