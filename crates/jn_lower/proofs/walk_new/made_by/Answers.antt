use Rattle.jn_lower.proofs.NextLocals.{if_ok}
use Rattle.jn_lower.proofs.walk_new.made_by.Goals as goal

pub returns-in-Some : goal.returns-in-Some
returns-in-Some c =
    if_ok c.made_with.result (λ ctor m. record { name = c.in-Some.name; last = c.in-Some.ensures; with = m }) c.made_with.ensures
