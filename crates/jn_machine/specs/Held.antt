-- A list of words, with the most that it can hold.
use Rattle.std.specs.Prelude.{ℕ, List, ℤ}

pub record Held : Type 0 where
  pub limit : ℕ
  pub words : List ℤ
