-- How far the recursion over the levels of operators has to go.
use Rattle.std.proofs.Common.{ℕ}
use Rattle.jn_base.specs.declared.tree.Level.{Level}
use Rattle.jn_base.specs.declared.tree.Level.TheVariants.{Or, And, Equal, Compare, Sum, Product}

abbrev pub height : Level → ℕ
height Or = 37
height And = 32
height Equal = 27
height Compare = 22
height Sum = 17
height Product = 12
