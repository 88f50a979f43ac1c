use Rattle.jn_lower.proofs.Seams.{on_ok}
use Rattle.jn_lower.proofs.Blocks.{effected}
use Rattle.jn_lower.proofs.walk_stmts.drops.Goals as goal

pub returns : goal.returns
returns c =
    on_ok c.effect.result (λ h. effected c.args.g.now c.args.e.now c.args.w.now c.effect.new.w h) c.effect.ensures
