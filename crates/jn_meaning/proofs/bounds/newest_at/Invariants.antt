use Rattle.std.proofs.Common.{◌<◌}
use Rattle.std.specs.Prelude.{IfSome}
use Rattle.jn_names.specs.Scoped.{NewestTo}
use Rattle.jn_meaning.proofs.bounds.newest_at.Given as goal

abbrev pub invariant-loop-i : goal.invariant-loop-i
invariant-loop-i l = record { within : IfSome l.found (λ i. i < l.i); newest : NewestTo l.vars l.path l.i l.found }
