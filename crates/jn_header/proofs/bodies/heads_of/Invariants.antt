use Rattle.std.proofs.Common.{◌≡◌, take}
use Rattle.jn_reach.specs.Each.{Each}
use Rattle.jn_base.specs.Paths.{methods}
use Rattle.jn_intern.specs.Pools.{Keeps}
use Rattle.jn_header.specs.Bodies.{HeadAt}
use Rattle.jn_header.proofs.bodies.heads_of.Given as goal

abbrev pub invariant-loop-m : goal.invariant-loop-m
invariant-loop-m l = Each (HeadAt l.p l.class) (methods (take l.m-index l.members)) l.all.items × (l.t ≡ l.fn.t) × Keeps l.fn.pool l.pool
