-- The rows of operators.
use Rattle.std.proofs.Common.{refl}
use Rattle.jn_sem_rows.specs.OperatorsExample.{OperatorRows}

pub operator_rows : OperatorRows
operator_rows V W = record {
  one_object = refl;
  two_objects = refl;
  unequal = refl;
  nulls = refl;
  no_null = refl;
  less = refl;
  no_less = refl;
  two_kinds = refl;
  remainder = refl;
  by_zero = refl;
}
