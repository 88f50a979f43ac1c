use Rattle.jn_lower.proofs.Seams.{on_ok}
use Rattle.jn_lower.proofs.Blocks.{returned}
use Rattle.jn_lower.proofs.walk_stmts.returns.Goals as goal

pub returns : goal.returns
returns c =
    on_ok c.push.result (λ h pl. returned c.args.g.now c.args.e.now pl c.args.w.now c.value.new.w c.push.new.w c.in_ok-value.ensures h)
    c.push.ensures
