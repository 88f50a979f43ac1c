use Rattle.std.proofs.Common.{◌∙◌}
use Rattle.jn_reach.proofs.Searches.{iff_false}
use Rattle.jn_subtype.proofs.ends.is_higher.Goals as goal

pub returns-in-None : goal.returns-in-None
returns-in-None c = iff_false (λ h. c.in-None.ensures.none h.further record {
  path = h.raised.path;
  levels = h.raised.levels;
  lower = c.anchor.ensures ∙ h.raised.lower;
  upper = c.anchor-2.ensures ∙ h.raised.upper;
  some = h.raised.some;
})
