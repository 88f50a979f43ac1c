use Rattle.std.proofs.Common.{[], ◌∙◌}
use Rattle.jn_table.proofs.Places.{take_whole}
use Rattle.jn_table.proofs.Flats.{adds_none, adds_more, adds_flat}
use Rattle.jn_table.proofs.entry.entries.Goals as goal

pub loop-decl-init : goal.loop-decl-init
loop-decl-init c = rw c.new-all.ensures.items (adds_none [] [])

pub loop-decl-preserved : goal.loop-decl-preserved
loop-decl-preserved c =
    adds_more _ _ _ _ _ _ _ c.loop-decl-test.true c.decl-item.is c.loop-decl.invariant
    (rw c.root-root.ensures at c.in_ok-flatten.ensures.adds)

pub returns : goal.returns
returns c =
    adds_flat _ _ _ _ (take_whole _ _ c.loop-decl-test.false ∙ c.as_slice-decl-items.ensures) c.loop-decl.invariant
