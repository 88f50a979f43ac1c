use Rattle.jn_lower.proofs.Seams.{on_ok}
use Rattle.jn_lower.proofs.Blocks.{printed_text}
use Rattle.jn_lower.proofs.walk_stmts.prints_text.Goals as goal

pub returns : goal.returns
returns c = on_ok c.push.result (λ h g pl. printed_text g c.args.text pl c.args.w.now c.push.new.w h) c.push.ensures
