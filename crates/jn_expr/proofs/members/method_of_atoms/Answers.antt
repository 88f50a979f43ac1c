use Rattle.std.proofs.Common.{◌∙◌, ap, subst, List, drop, rules}
use Rattle.std.proofs.Math.ListN.{drop_of_length-le}
use Rattle.jn_base.specs.Atoms.{atom_of, atom_at}
use Rattle.jn_base.specs.Scopes.{bound_of}
use Rattle.jn_intern.specs.declared.scope.Bind.{Bind}
use Rattle.jn_intern.specs.Pools.{scope_in}
use Rattle.jn_subtype.specs.Binds.{binds_in}
use Rattle.jn_expr.specs.Found.{LeastAt}
use Rattle.jn_expr.proofs.Finding.{method_hit, method_next, method_missed}
use Rattle.jn_expr.proofs.members.method_of_atoms.Goals as goal

pub returns-in-Some : goal.returns-in-Some
returns-in-Some c = λ p g.
    method_hit p (scope_in c.args.pool.now c.args.scope.now) c.args.xs.now c.loop-x.x-index c.x-item.result c.args.name c.loop-x-test.true c.x-item.is (c.loop-x.invariant p g)
    c.in_ok-b.b c.in-Some.found
    c.in_ok-b.ensures
    (subst (LeastAt p c.in_ok-b.b c.args.name) c.in-Some.is (c.in_ok-least_at.ensures p g))

pub loop-x-preserved : goal.loop-x-preserved
loop-x-preserved c = λ p g.
    method_next p (scope_in c.args.pool.now c.args.scope.now) c.args.xs.now c.loop-x.x-index c.x-item.result c.args.name c.loop-x-test.true c.x-item.is (c.loop-x.invariant p g)
    c.in_ok-b.b
    c.in_ok-b.ensures
    (subst (LeastAt p c.in_ok-b.b c.args.name) c.in-None.is (c.in_ok-least_at.ensures p g))

pub returns : goal.returns
returns c = λ p g.
    method_missed p (scope_in c.args.pool.now c.args.scope.now) c.args.xs.now (drop c.loop-x.x-index c.args.xs.now) c.args.name
    (drop_of_length-le c.args.xs.now {i = c.loop-x.x-index} (search rules)) (c.loop-x.invariant p g)
