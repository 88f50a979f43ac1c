use Rattle.jn_table.proofs.Owns.{gathered_none, gathered_more, gathered_all}
use Rattle.jn_table.proofs.own.gathered.Goals as goal

pub loop-number-init : goal.loop-number-init
loop-number-init c = gathered_none _ _ c.new-all.ensures.items

pub loop-number-preserved : goal.loop-number-preserved
loop-number-preserved c =
    gathered_more _ _ _ _ c.index-rows-number.result _ _ c.loop-number-test.true
    (c.requires _ _ c.loop-number-test.true) c.index-rows-number.is
    c.loop-number.invariant (rw c.deref.ensures.value at c.in_ok-add_names.ensures)

pub returns : goal.returns
returns c = gathered_all _ _ _ _ c.loop-number-test.false c.loop-number.invariant
