use Rattle.std.proofs.Common.{arith}
use Rattle.jn_table.proofs.Picked.{adds_all, adds_beyond, adds_here, adds_none, child_at}
use Rattle.jn_table.proofs.children.add_picked.Goals as goal
use Rattle.jn_table.proofs.children.add_picked.Goals.{then-len-room+in_ok-push, else-len-room}

pub loop-place-init : goal.loop-place-init
loop-place-init c = adds_none _ _ _ _ (omega (arith, c.requires.room, c.args.all.now.ok.0))

pub loop-place-preserved : goal.loop-place-preserved
loop-place-preserved c =
    let within = c.requires.picked c.loop-place.place-index 0 c.loop-place-test.true in
    elim c.if-len-room.branch [
      | then-len-room+in_ok-push w ↦
          rw (w.all-is, w.in_ok-push.ensures.items)
          (adds_here _ _ _ _ _ 0 c.loop-place-test.true _ _ c.loop-place.invariant _ (child_at _ _ _ _ within)
          (omega (arith, w.if-len-room.true, c.len.ensures, c.loop-place.all.ok.0)))
      | else-len-room w ↦
          rw w.all-is
          (adds_beyond _ _ _ _ _ 0 c.loop-place-test.true _ _ c.loop-place.invariant _
          (child_at _ _ _ (record { 0 = 0 }) within)
          (omega (arith, w.if-len-room.false, c.len.ensures, c.loop-place.all.ok.0)))
    ]

pub returns : goal.returns
returns c = adds_all _ _ _ _ _ _ _ c.loop-place-test.false c.loop-place.invariant
