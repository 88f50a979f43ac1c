use Rattle.jn_views.proofs.Passings.{PassTo}
use Rattle.jn_views.proofs.passing.first_blocked.Given as goal

abbrev pub invariant-loop-field : goal.invariant-loop-field
invariant-loop-field l = PassTo l.s l.u l.w l.from l.to l.names l.field-items l.field-index
