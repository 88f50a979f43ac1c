use Rattle.std.proofs.Common.{ℕ, arith}
use Rattle.std.specs.declared.vec.Vec.{Vec}
use Rattle.std.specs.declared.alloc.Global.{Global}
use Rattle.jn_reach.proofs.Eachs.{Each-more, Each-none}
use Rattle.jn_table.specs.Level.{DirectRow}
use Rattle.jn_table.specs.declared.level.Child.{Child}
use Rattle.jn_table.proofs.Places.{same_item}
use Rattle.jn_table.proofs.level.direct_rows.Goals as goal

pub child_keys-requires : goal.child_keys-requires
child_keys-requires c = λ k d l. let w = c.requires.children k d l in omega (arith, w, c.requires.few)

pub loop-heir-init : goal.loop-heir-init
loop-heir-init c =
    Each-none (λ (heir : Child) (row : Vec ℕ Global). DirectRow c.args.entries.now c.args.level.now c.args.children.now
    heir row.items) _ c.new-rows.ensures.items

pub loop-heir-preserved : goal.loop-heir-preserved
loop-heir-preserved c =
    rw c.in_ok-push.ensures.items
    (Each-more (λ (heir : Child) (row : Vec ℕ Global). DirectRow c.args.entries.now c.args.level.now c.args.children.now
    heir row.items) _ _ _ _ _
    c.loop-heir-test.true (same_item _ _ _ c.loop-heir-test.true) c.loop-heir.invariant
    (c.in_ok-row.ensures.row c.args.children.now
    (rw c.in_ok-keys.ensures at (rw c.deref.ensures.value at c.in_ok-groups.ensures))))
