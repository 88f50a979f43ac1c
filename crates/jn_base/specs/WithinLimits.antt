-- The programs that a source can give, but for their places.
use Rattle.std.specs.Prelude.{ℕ, List}
use Rattle.jn_base.specs.declared.tree.Program.{Program}
use Rattle.jn_base.specs.Spelling.{IsTextOf}
use Rattle.jn_base.specs.Unplaced.{IsSameButForPlaces}

-- A program is within the limits where some source that the first three steps of the verdict don't refuse spells it but
-- for its places.
pub record IsWithinLimits (p : Program) : Type 0 where
  pub source : List ℕ
  pub spelled : Program
  pub same : IsSameButForPlaces spelled p
  pub is_text : IsTextOf spelled source
