use Rattle.jn_table.proofs.Gathers.{named_more, named_all}
use Rattle.jn_table.proofs.gather.add_names.Goals as goal

pub loop-name-preserved : goal.loop-name-preserved
loop-name-preserved c =
    rw c.in_ok-push.ensures.items (named_more _ _ _ _ _ c.loop-name-test.true c.loop-name.invariant)

pub returns : goal.returns
returns c = named_all _ _ _ _ c.loop-name-test.false c.loop-name.invariant
