use Rattle.jn_reach.proofs.Searches.{iff_false, not_when}
use Rattle.jn_names.proofs.members.is_lower.Goals as goal

pub returns-then-is_class : goal.returns-then-is_class
returns-then-is_class c = iff_false (λ h. h.0 (c.is_class.ensures.0 c.if-is_class.true))

pub returns-then-not-is_among : goal.returns-then-not-is_among
returns-then-not-is_among c = iff_false (λ h. not_when c.if-not-is_among.true c.is_among.ensures h.1)

pub returns : goal.returns
returns c = (
  λ h. (not_when c.if-is_class.false c.is_class.ensures, c.is_among.ensures.0 c.if-not-is_among.false, c.has_sup.ensures.0 h),
  λ h. c.has_sup.ensures.1 h.2,
)
