use Rattle.std.proofs.Common.{sym}
use Rattle.jn_share.proofs.Reading.{group_some}
use Rattle.jn_share.proofs.groups.group.Goals as goal

pub returns-in-Some-clause-some : goal.returns-in-Some-clause-some
returns-in-Some-clause-some c = group_some c.args.rows.now c.args.id c.in-Some.row.now (sym c.in-Some.ensures)
