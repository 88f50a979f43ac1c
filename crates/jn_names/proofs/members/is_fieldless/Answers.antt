use Rattle.jn_reach.proofs.Searches.{not_when}
use Rattle.jn_names.proofs.members.is_fieldless.Goals as goal

pub returns-clause-other : goal.returns-clause-other
returns-clause-other c =
    λ h. record { super = c.is_among.ensures.0 c.if-not-is_among.false; other = not_when h c.is_just.ensures }
