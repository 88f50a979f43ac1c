use Rattle.std.proofs.Common.{◌<◌}
use Rattle.std.specs.Prelude.{IfSome}
use Rattle.jn_subtype.specs.Newest.{NewestTo}
use Rattle.jn_subtype.proofs.bounds.newest.Given as goal

abbrev pub invariant-loop-i : goal.invariant-loop-i
invariant-loop-i l = record { within : IfSome l.found (λ i. i < l.i); newest : NewestTo l.binds l.path l.i l.found }
