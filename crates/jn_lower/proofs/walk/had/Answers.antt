use Rattle.std.proofs.Common.{refl}
use Rattle.jn_lower.proofs.walk.had.Goals as goal

pub returns-in-Some : goal.returns-in-Some
returns-in-Some c =
    record { kind = c.in-Some.kind; taken = c.in-Some.ensures; last = c.kind_number-w.ensures; out = refl }
