use Rattle.std.proofs.Common.{refl}
use Rattle.std.specs.Fmt.{digits}
use Rattle.jn_code.proofs.law.example_rows.Goals as goal

pub returns-clause-done : goal.returns-clause-done
unfolding digits
returns-clause-done c a d = refl

pub returns-clause-two : goal.returns-clause-two
unfolding digits
returns-clause-two c a d = refl
