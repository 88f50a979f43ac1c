use Rattle.std.proofs.Common.{rules, reverse, subst, sym, List, Contains}
use Rattle.std.proofs.Math.ListN.{drop_of_length-le}
use Rattle.jn_base.specs.declared.tree.Name.{Name}
use Rattle.jn_base.specs.declared.tree.Member.{Member}
use Rattle.jn_base.specs.Paths.{nested}
use Rattle.jn_homes.specs.Homes.{OnWay}
use Rattle.jn_homes.proofs.Places.{at_get}
use Rattle.jn_homes.proofs.Housing.{stuck_here, reached_here}
use Rattle.jn_homes.proofs.homes.go_down.Goals as goal

pub returns-in-None : goal.returns-in-None
returns-in-None c = λ once.
    stuck_here c.args.p.now once _ c.loop-level.decl.now _ _
    (subst (λ (l : List Name). OnWay c.args.p.now (reverse c.args.path.now.names) c.loop-level.decl.now l)
    (at_get c.args.left.now c.loop-level.level (record { 0 = 0 }) c.loop-level-test.true) c.loop-level.invariant)
    (λ e among is. c.in-None.ensures e (subst (λ (l : List Member). Contains (nested l) e) (sym c.as_slice.ensures) among) is)

pub returns : goal.returns
returns c =
    λ once. reached_here c.args.p.now _ c.loop-level.decl.now _
    (drop_of_length-le c.args.left.now {i = c.loop-level.level} (search rules)) c.loop-level.invariant
