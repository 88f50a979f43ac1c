-- Paths that a table numbers.
use Rattle.std.specs.Prelude.{◌≡◌, List, ◌++◌}
use Rattle.jn_reach.specs.Each.{Each}
use Rattle.jn_base.specs.Paths.{Path}
use Rattle.jn_table.specs.declared.class.ClassId.{ClassId}
use Rattle.jn_table.specs.declared.table.Table.{Table}
use Rattle.jn_table.specs.Tables.{StandsFor}

-- no number stands for the path
abbrev pub HasNone : Table → Path → Type 0
HasNone t R = (id : ClassId) → StandsFor t id R → ⊥

-- where the numbers stand for paths, those come behind the earlier ones, in the order of the numbers
abbrev pub AddsPaths : Table → List ClassId → List Path → List Path → Type 0
AddsPaths t ids before after =
    (paths : List Path) → Each (λ S id. StandsFor t id S) paths ids → after ≡ before ++ paths
