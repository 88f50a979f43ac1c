use Rattle.jn_expr.specs.Envs.{ArePartsOf, parts}
use Rattle.jn_check.specs.Walk.{plan_of_decl, bodies_of_decl}
use Rattle.jn_check.proofs.Walking.{WalkFrom}
use Rattle.jn_check.proofs.walk.check_decls.Given as goal

abbrev pub invariant-loop-d : goal.invariant-loop-d
invariant-loop-d l =
    WalkFrom l.p (plan_of_decl l.namespace) (bodies_of_decl l.namespace) l.decls l.d-index l.fn.out.items l.out.items × ArePartsOf l.p (parts l.env)
