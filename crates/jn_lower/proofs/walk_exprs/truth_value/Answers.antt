use Rattle.jn_lower.proofs.Seams.{on_ok}
use Rattle.jn_lower.proofs.LeafForms.{truth_done}
use Rattle.jn_lower.proofs.walk_exprs.truth_value.Goals as goal

pub returns : goal.returns
returns c =
    on_ok c.had.result (λ h g. truth_done g c.args.b c.args.w.now c.truth.new.out c.had.new.w c.in_ok-truth.ensures h) c.had.ensures
