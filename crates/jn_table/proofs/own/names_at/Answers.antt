use Rattle.jn_table.proofs.Owns.{own_none, own_more, own_all}
use Rattle.jn_table.proofs.own.names_at.Goals as goal

pub loop-number-init : goal.loop-number-init
loop-number-init c = own_none _ _ _ c.new-all.ensures.items

pub loop-number-preserved : goal.loop-number-preserved
loop-number-preserved c =
    own_more _ _ _ _ _ c.index-entries-number.result _ _ c.loop-number-test.true
    (c.requires _ _ c.loop-number-test.true) c.index-entries-number.is
    c.loop-number.invariant (rw c.names_of.ensures at c.in_ok-add_names.ensures)

pub returns : goal.returns
returns c = own_all _ _ _ _ _ c.loop-number-test.false c.loop-number.invariant
