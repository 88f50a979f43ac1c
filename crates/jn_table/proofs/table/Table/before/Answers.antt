use Rattle.std.proofs.Common.{arith}
use Rattle.jn_table.proofs.Shown.{says_before}
use Rattle.jn_table.proofs.table.Table.before.Goals as goal

pub returns : goal.returns
returns c = says_before _ _ _ _ (λ h. grind arith, λ l. grind arith)
