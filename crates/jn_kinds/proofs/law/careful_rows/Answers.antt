use Rattle.std.proofs.Common.{refl}
use Rattle.std.specs.Fmt.{digits}
use Rattle.jn_kinds.proofs.law.careful_rows.Goals as goal

pub returns-clause-number : goal.returns-clause-number
unfolding digits
returns-clause-number c = refl

pub returns-clause-number_slot : goal.returns-clause-number_slot
unfolding digits
returns-clause-number_slot c = refl
