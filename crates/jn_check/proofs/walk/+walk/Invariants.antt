use Rattle.jn_expr.specs.Envs.{ArePartsOf, parts}
use Rattle.jn_check.specs.Walk.{plan_of_member, bodies_of_member}
use Rattle.jn_check.proofs.Walking.{WalkFrom}
use Rattle.jn_check.proofs.walk.+walk.Given as goal

abbrev pub invariant-check_members-loop-m : goal.invariant-check_members-loop-m
invariant-check_members-loop-m l =
    WalkFrom l.p (plan_of_member l.class) (bodies_of_member l.class) l.members l.m-index l.fn.out.items l.out.items × ArePartsOf l.p (parts l.env)
