use Rattle.jn_reach.proofs.Eachs.{Each-more, Each-none}
use Rattle.jn_table.specs.Groups.{PlacesOf}
use Rattle.jn_table.proofs.Orders.{each_all}
use Rattle.jn_table.proofs.groups.rows_at.Goals as goal

pub loop-path-init : goal.loop-path-init
loop-path-init c = λ keys are. Each-none (PlacesOf keys) _ c.new-rows.ensures.items

pub loop-path-preserved : goal.loop-path-preserved
loop-path-preserved c = λ keys are.
    rw c.in_ok-push.ensures.items
    (Each-more (PlacesOf keys) _ _ _ _ _
    c.loop-path-test.true c.path-item.is (c.loop-path.invariant keys are) (c.in_ok-row.ensures keys are))

pub returns : goal.returns
returns c = λ keys are. each_all (PlacesOf keys) _ _ _ c.loop-path-test.false (c.loop-path.invariant keys are)
