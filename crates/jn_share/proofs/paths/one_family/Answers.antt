use Rattle.std.proofs.Common.{sym}
use Rattle.jn_reach.proofs.Searches.{iff_false}
use Rattle.jn_share.proofs.Names.{one_to, one_from, unnamed}
use Rattle.jn_share.proofs.paths.one_family.Goals as goal

pub returns-in-None : goal.returns-in-None
returns-in-None c = iff_false (λ h. unnamed c.args.names.now h.X (sym c.in-None.ensures) h.one)

pub returns-in-None-at : goal.returns-in-None-at
returns-in-None-at c = iff_false (λ h. unnamed c.args.others.now h.X (sym c.in-None-at.ensures) h.other)

pub returns-in-Some-at : goal.returns-in-Some-at
returns-in-Some-at c = (
  λ t. one_to c.args.names.now c.args.others.now c.in-Some.name.now c.in-Some-at.other.now (sym c.in-Some.ensures) (sym c.in-Some-at.ensures) (c.is_name.ensures.0 t),
  λ h. c.is_name.ensures.1 (one_from c.args.names.now c.args.others.now c.in-Some.name.now c.in-Some-at.other.now (sym c.in-Some.ensures) (sym c.in-Some-at.ensures) h),
)
