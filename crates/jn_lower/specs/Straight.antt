-- Which operators may decide without their right operand.
use Rattle.std.specs.Prelude.{Bool, true, false, Option, Some, None}
use Rattle.jn_base.specs.declared.tree.Op.{Op}
use Rattle.jn_base.specs.declared.tree.Op.TheVariants as op

-- true for `&&`, false for `||`, and none of another operator
abbrev pub deciding_of : Op → Option Bool
deciding_of op.Or = Some false
deciding_of op.And = Some true
deciding_of op.Eq = None
deciding_of op.Ne = None
deciding_of op.Lt = None
deciding_of op.Le = None
deciding_of op.Gt = None
deciding_of op.Ge = None
deciding_of op.Add = None
deciding_of op.Sub = None
deciding_of op.Mul = None
deciding_of op.Div = None
deciding_of op.Rem = None
