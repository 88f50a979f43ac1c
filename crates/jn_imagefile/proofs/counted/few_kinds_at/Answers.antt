use Rattle.std.proofs.Common.{arith}
use Rattle.jn_code.specs.SpellsFields.{kind_byte}
use Rattle.jn_imagefile.proofs.Loops.{count_of_listed}
use Rattle.jn_imagefile.proofs.counted.few_kinds_at.Goals as goal

pub returns-clause-few : goal.returns-clause-few
returns-clause-few c =
    omega (arith, count_of_listed (kind_byte 1 3).read c.from.result c.in_ok-count.rest.now c.in_ok-kinds.kinds c.in_ok-kinds.rest.now c.in_ok-kinds.ensures, c.in_ok-count.ensures.few, c.from.ensures)
