use Rattle.std.proofs.Common.{Err}
use Rattle.jn_header.proofs.Checking.{only_table, table_told}
use Rattle.jn_header.proofs.check.check_table.Goals as goal

pub returns-in-Ok-clause-only : goal.returns-in-Ok-clause-only
returns-in-Ok-clause-only c = only_table c.args.p.now c.requires.table.named c.requires.once c.check_extended.result c.check_extended.ensures

pub returns-in-Err-clause-only : goal.returns-in-Err-clause-only
returns-in-Err-clause-only c =
    only_table c.args.p.now c.requires.table.named c.requires.once (Err c.refused.result) (table_told c.args.p.now c.refused.result c.refused.ensures)
