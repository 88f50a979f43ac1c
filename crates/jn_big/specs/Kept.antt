-- A sink that keeps what it takes, as contracts see it.
use Rattle.std.specs.Prelude.{ℕ, List}

pub record KeptState : Type 0 where
  -- the bytes taken
  pub taken : List ℕ
  pub faults : ℕ
