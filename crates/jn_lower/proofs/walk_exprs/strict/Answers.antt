use Rattle.std.proofs.Common.{refl}
use Rattle.jn_lower.proofs.Seams.{on_ok}
use Rattle.jn_lower.proofs.walk_exprs.strict.Goals as goal

pub returns : goal.returns
returns c = on_ok c.had.result (λ h. record {
  mid = record { out = c.operator.new.out; marks = c.args.w.now.marks; last = c.args.w.now.last };
  pushed = record { adds = c.in_ok-operator.ensures; marks = refl; last = refl };
  had = h;
}) c.had.ensures
