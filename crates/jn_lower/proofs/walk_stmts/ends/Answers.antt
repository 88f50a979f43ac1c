use Rattle.jn_lower.proofs.Seams.{on_ok}
use Rattle.jn_lower.proofs.Blocks.{ended}
use Rattle.jn_lower.proofs.walk_stmts.ends.Goals as goal

pub returns : goal.returns
returns c = on_ok c.push.result (λ h g pl. ended g pl c.args.w.now c.push.new.w h) c.push.ensures
