use Rattle.rows_mean.proofs.Sources.{named}
use Rattle.rows_mean.proofs.running.run_named.Goals as goal

pub check_headers-requires-clause-table : goal.check_headers-requires-clause-table
check_headers-requires-clause-table g c = c.in_ok-table.ensures.table (named c.args.p.now c.requires.limits)
