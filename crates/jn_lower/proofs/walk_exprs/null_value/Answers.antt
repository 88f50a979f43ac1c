use Rattle.jn_lower.proofs.Seams.{on_ok}
use Rattle.jn_lower.proofs.LeafForms.{null_done}
use Rattle.jn_lower.proofs.walk_exprs.null_value.Goals as goal

pub returns : goal.returns
returns c =
    on_ok c.had.result (λ h g. null_done g c.args.w.now c.null.new.out c.had.new.w c.in_ok-null.ensures h) c.had.ensures
