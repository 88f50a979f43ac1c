-- What contracts see of a store over real files: how often reading and saving failed.
use Rattle.std.specs.Prelude.{ℕ}

pub record FaultCounts : Type 0 where
  pub read_faults : ℕ
  pub save_faults : ℕ
