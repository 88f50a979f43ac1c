use Rattle.jn_intern.specs.Pools.{scope_in}
use Rattle.jn_expr.proofs.Closing.{OpensItself, more_so_far, all_so_far, closed_by}
use Rattle.jn_expr.proofs.closure.close_atoms.Goals as goal

pub loop-x-preserved : goal.loop-x-preserved
loop-x-preserved c = λ p f.
    more_so_far (OpensItself p (scope_in c.args.pool.now c.args.scope.now)) c.args.xs.now c.loop-x.x-index c.x-item.result c.loop-x.all c.in_ok-more.more c.append.new.self
    c.loop-x-test.true c.x-item.is (c.loop-x.invariant p f) c.in_ok-append.ensures (c.in_ok-more.ensures p f)

pub returns : goal.returns
returns c = λ p f.
    closed_by p (scope_in c.args.pool.now c.args.scope.now) c.args.xs.now _
    (all_so_far (OpensItself p (scope_in c.args.pool.now c.args.scope.now)) c.args.xs.now c.loop-x.x-index c.loop-x.all c.loop-x-test.false (c.loop-x.invariant p f))
