use Rattle.std.proofs.Common.{◌<◌, length, arith}
use Rattle.jn_lower.proofs.CtorCodes.{last_head}
use Rattle.jn_lower.proofs.selecting.last_of.Goals as goal

pub returns-else-is_empty : goal.returns-else-is_empty
returns-else-is_empty c =
    let some_there : 0 < length c.args.names.now = grind (arith, c.if-is_empty.ensures, c.is_empty.ensures, c.if-is_empty.false) in
    last_head c.args.names.now (record { 0 = 0 }) some_there
