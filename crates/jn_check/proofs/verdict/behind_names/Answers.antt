use Rattle.jn_check.proofs.Verdicts.{named, headers_told}
use Rattle.jn_check.proofs.verdict.behind_names.Goals as goal

pub check_headers-requires-clause-table : goal.check_headers-requires-clause-table
check_headers-requires-clause-table c = c.in_ok-table.ensures.table (named c.args.p.now c.requires.limits)

pub returns-in-Err : goal.returns-in-Err
returns-in-Err c = headers_told c.args.p.now c.in-Err.fault c.requires.once c.in-Err.ensures.told
