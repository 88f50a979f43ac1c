-- What a writer of the program does.
use Rattle.std.specs.Prelude.{◌≡◌, ℕ, List, ◌++◌}

-- These bytes stand behind the old ones, and the numbers that they are of are of their types.
pub record Appends (bytes : List ℕ) (Fits : Type 0) (old new : List ℕ) : Type 0 where
  pub same : new ≡ old ++ bytes
  pub fits : Fits
