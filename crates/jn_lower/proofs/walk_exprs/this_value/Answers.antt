use Rattle.jn_lower.proofs.Seams.{on_ok}
use Rattle.jn_lower.proofs.LeafForms.{this_done}
use Rattle.jn_lower.proofs.walk_exprs.this_value.Goals as goal

pub returns : goal.returns
returns c =
    on_ok c.had.result (λ h g. this_done g c.args.w.now c.this.new.out c.had.new.w c.in_ok-this.ensures h) c.had.ensures
