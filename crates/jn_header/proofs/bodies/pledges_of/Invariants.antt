use Rattle.std.proofs.Common.{◌≡◌, take}
use Rattle.jn_reach.specs.Each.{Each}
use Rattle.jn_heads.specs.Sides.{IsPledge}
use Rattle.jn_header.proofs.bodies.pledges_of.Given as goal

abbrev pub invariant-loop-constraint : goal.invariant-loop-constraint
invariant-loop-constraint l = Each (IsPledge l.p l.class l.method) (take l.constraint-index l.constraints) l.all.items × (l.t ≡ l.fn.t)
