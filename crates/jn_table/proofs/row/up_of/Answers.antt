use Rattle.jn_reach.proofs.Searches.{none_all}
use Rattle.jn_table.proofs.Nears.{IsUpAt, no_up_at}
use Rattle.jn_table.proofs.row.up_of.Goals as goal

pub returns : goal.returns
returns c =
    no_up_at c.args.paths.now c.args.path.now c.args.row.now c.requires.row
    (none_all (IsUpAt c.args.paths.now c.args.path.now) c.args.row.now c.loop-number.number-index c.loop-number-test.false
    c.loop-number.invariant)
