use Rattle.std.proofs.Common.{◌≡◌, ◌++◌, List, take}
use Rattle.jn_base.specs.Paths.{Path}
use Rattle.jn_reach.specs.Each.{Each}
use Rattle.jn_table.specs.Rows.{IsNumber}
use Rattle.jn_names.proofs.bound.add_paths.Given as goal

abbrev pub invariant-loop-id : goal.invariant-loop-id
invariant-loop-id l =
    (paths : List Path) → Each (λ S id. IsNumber l.known id S) paths l.ids
    → l.all.items ≡ l.fn.all.items ++ take l.id-index paths
