use Rattle.std.proofs.Common.{[], refl}
use Rattle.jn_table.proofs.NamePlaces.{rows_all, rows_more}
use Rattle.jn_table.proofs.named.declared_places.Goals as goal

pub loop-at-preserved : goal.loop-at-preserved
loop-at-preserved c =
    rows_more c.args.places.now c.args.inside.now c.args.numbers.now _ _ c.index-inside-at.result [] _ _
    c.loop-at-test.true (c.requires.numbers _ _ c.loop-at-test.true) c.index-inside-at.is c.loop-at.invariant
    (rw c.deref.ensures.value at c.in_ok-add_placed.ensures)

pub returns : goal.returns
returns c =
    rows_all c.args.places.now c.args.inside.now c.args.numbers.now _ [] _ _ c.loop-at-test.false refl
    c.loop-at.invariant c.in_ok-row.ensures
