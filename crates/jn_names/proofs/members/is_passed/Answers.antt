use Rattle.jn_reach.proofs.Searches.{not_when}
use Rattle.jn_names.proofs.members.is_passed.Goals as goal

pub returns-clause-low : goal.returns-clause-low
returns-clause-low c = λ h. record {
  super = c.is_among.ensures.0 c.if-not-is_among.false;
  other = not_when c.if-is_just.false c.is_just.ensures;
  low = not_when h c.has_lower.ensures;
}
