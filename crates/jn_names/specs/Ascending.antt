-- Numbers of classes in ascending order.
use Rattle.std.specs.Prelude.{ℕ, List}
use Rattle.std.specs.List.Sorted.{IsNonDecreasingBy}
use Rattle.jn_table.specs.declared.class.ClassId.{ClassId}

abbrev pub class_number : ClassId → ℕ
class_number id = id.0

-- none is above one behind it
abbrev pub Ascend : List ClassId → Type 0
Ascend ids = IsNonDecreasingBy class_number ids
