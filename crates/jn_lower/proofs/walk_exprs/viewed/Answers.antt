use Rattle.std.proofs.Common.{refl}
use Rattle.jn_lower.proofs.Seams.{on_ok}
use Rattle.jn_lower.proofs.walk_exprs.viewed.Goals as goal

pub returns : goal.returns
returns c = on_ok c.had.result (λ h. record {
  at = c.class_of.new.out;
  mid = record { out = c.push.new.self; marks = c.args.w.now.marks; last = c.args.w.now.last };
  class = c.in_ok-class_of.ensures;
  conv = c.in_ok-push.ensures.ok;
  marks = refl;
  had = h;
}) c.had.ensures
