use Rattle.std.proofs.Common.{◌≡◌, ◌<◌, ◌≤◌, ◌+◌, ℕ, get_or}
use Rattle.jn_table.specs.declared.class.ClassId.{ClassId}
use Rattle.jn_names.specs.Ascending.{class_number}
use Rattle.jn_names.proofs.ascending.ascend.Given as goal

abbrev pub invariant-loop-k : goal.invariant-loop-k
invariant-loop-k l =
    (i j : ℕ) (d : ClassId) → j ≡ i + 1 → j < l.k → class_number (get_or l.ids i d) ≤ class_number (get_or l.ids j d)
