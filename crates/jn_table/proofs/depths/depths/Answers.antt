use Rattle.std.proofs.Common.{arith, refl}
use Rattle.jn_table.proofs.DepthSteps.{stage_root, stage_next, stage_few, stage_last, stage_over, below_long}
use Rattle.jn_table.proofs.depths.depths.Goals as goal

pub loop-level-init : goal.loop-level-init
loop-level-init c =
    stage_root _ _ _ _ c.new.ensures.items c.new-2.ensures.items c.in_ok-level.ensures.one
    c.in_ok-level.ensures.shaped c.in_ok-level.ensures.exact

pub returns-in-Nothing-clause-exact : goal.returns-in-Nothing-clause-exact
returns-in-Nothing-clause-exact c =
    stage_last c.args.entries.now c.args.order.now _ _ c.loop-level.room _ c.loop-level.invariant
    (rw c.in-Nothing.is at c.in_ok-depth_below.ensures)
    (omega (arith, c.loop-level.invariant.some)) refl

pub returns-in-Over-clause-exact : goal.returns-in-Over-clause-exact
returns-in-Over-clause-exact c p of =
    let o = rw c.in-Over.is at c.in_ok-depth_below.ensures in
    rw o.is (stage_over c.args.entries.now c.args.order.now _ _ c.loop-level.room o.children o.last o.up
    c.loop-level.invariant o.front o.last_at o.up_at p of)

pub add_level-requires-clause-few : goal.add_level-requires-clause-few
add_level-requires-clause-few c =
    let n = rw c.in-Next.is at c.in_ok-depth_below.ensures in
    stage_few c.args.entries.now c.args.order.now _ _ c.in-Next.below c.loop-level.room n.children
    c.loop-level.invariant n.few n.paths

pub overflow_sub-room : goal.overflow_sub-room
overflow_sub-room c =
    let n = rw c.in-Next.is at c.in_ok-depth_below.ensures in
    omega (arith, c.len-room.ensures, below_long _ _ _ n.paths, n.few, c.in-Next.below.paths.ok.0)

pub loop-level-smaller : goal.loop-level-smaller
loop-level-smaller c =
    let n = rw c.in-Next.is at c.in_ok-depth_below.ensures in
    omega (arith, c.len-room.ensures, below_long _ _ _ n.paths, n.some, n.few, c.in-Next.below.paths.ok.0)

pub loop-level-preserved : goal.loop-level-preserved
loop-level-preserved c =
    let n = rw c.in-Next.is at c.in_ok-depth_below.ensures in
    stage_next c.args.entries.now c.args.order.now _ _ _ c.in-Next.below c.loop-level.room n.children
    c.loop-level.invariant n.front n.few n.shaped n.paths n.exact
    c.in_ok-add_level-in-Next.ensures _
    (omega (arith, c.len-room.ensures, below_long _ _ _ n.paths, n.few, c.in-Next.below.paths.ok.0))
