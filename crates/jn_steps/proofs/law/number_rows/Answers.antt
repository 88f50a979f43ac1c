use Rattle.std.proofs.Common.{refl}
use Rattle.std.specs.Int.{int_wrap}
use Rattle.std.specs.Fmt.{digits}
use Rattle.jn_steps.proofs.law.number_rows.Goals as goal

pub returns-clause-sum : goal.returns-clause-sum
unfolding int_wrap
returns-clause-sum c = refl

pub returns-clause-product : goal.returns-clause-product
unfolding int_wrap
returns-clause-product c = refl

pub returns-clause-negation : goal.returns-clause-negation
unfolding int_wrap
returns-clause-negation c = refl

pub returns-clause-number : goal.returns-clause-number
unfolding digits
returns-clause-number c = refl
