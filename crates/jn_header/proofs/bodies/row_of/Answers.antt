use Rattle.std.proofs.Common.{sym}
use Rattle.jn_header.proofs.Placing.{in_row}
use Rattle.jn_header.proofs.bodies.row_of.Goals as goal

pub returns-clause-placed : goal.returns-clause-placed
returns-clause-placed c = in_row c.args.heads.items c.deref.result.now (sym c.deref.ensures.value) c.in_ok-places.ensures
