use Rattle.std.proofs.Common.{arith, refl}
use Rattle.jn_table.proofs.Nears.{empty_off, last_off}
use Rattle.jn_table.proofs.route.without_last.Goals as goal

pub returns-then-is_empty : goal.returns-then-is_empty
returns-then-is_empty c = empty_off c.args.names.now (grind (arith, c.is_empty.ensures, c.if-is_empty.true))

pub returns : goal.returns
returns c =
    last_off c.args.names.now _ _ (grind (arith, c.is_empty.ensures, c.if-is_empty.false)) refl
