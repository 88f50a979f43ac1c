use Rattle.std.proofs.Common.{refl}
use Rattle.std.specs.Int.{int_wrap}
use Rattle.jn_code.proofs.rows.number_rows.Goals as goal

pub returns-clause-neg : goal.returns-clause-neg
unfolding int_wrap
returns-clause-neg c = record { valid = refl; run = refl }

pub returns-clause-wraps : goal.returns-clause-wraps
unfolding int_wrap
returns-clause-wraps c = record { valid = refl; run = refl }
