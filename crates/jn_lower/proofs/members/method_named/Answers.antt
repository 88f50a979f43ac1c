use Rattle.std.proofs.Common.{rules, refl}
use Rattle.std.proofs.Math.ListN.{drop_of_length-le}
use Rattle.jn_base.specs.Paths.{methods}
use Rattle.jn_lower.proofs.Named.{left_all, left_next, left_none, left_hit, methods_behind}
use Rattle.jn_lower.proofs.members.method_named.Goals as goal

pub loop-member-init : goal.loop-member-init
loop-member-init c = left_all methods methods_behind refl _ c.args.members.now

pub loop-member-preserved : goal.loop-member-preserved
loop-member-preserved c =
    left_next methods methods_behind refl _ c.args.members.now c.loop-member.member-index c.member-item.result c.loop-member.invariant c.loop-member-test.true c.member-item.is (λ x h. c.in_default.ensures x h)

pub returns-in-Some : goal.returns-in-Some
returns-in-Some c = (
  left_hit methods methods_behind refl c.args.members.now c.loop-member.member-index c.member-item.result c.in-Some.x.now c.loop-member-test.true c.member-item.is c.in-Some.ensures.0,
  c.in-Some.ensures.1,
)

pub returns : goal.returns
returns c =
    left_none methods methods_behind refl _ c.args.members.now _ c.loop-member.invariant (drop_of_length-le c.args.members.now {i = c.loop-member.member-index} (search rules))
