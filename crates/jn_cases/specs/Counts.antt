-- What a tally has counted.
use Rattle.std.specs.Prelude.{◌≡◌, ◌+◌, ◌-◌, ◌^◌, ℕ, min, true, if◌then◌else◌}
use Rattle.jn_cases.specs.declared.tally.Tally.{Tally}

-- one more, up to the largest number of 64 bits
abbrev pub next_count : ℕ → ℕ
next_count n = min (n + 1) (2 ^ 64 - 1)

-- the open case has compared something that agrees
pub record Agrees (old new : Tally) : Type 0 where
  pub asked : new.asked ≡ true
  pub differs : new.differs ≡ old.differs
  pub differing : new.differing ≡ old.differing
  pub cases : new.cases ≡ old.cases

-- the open case is one that differs, and is counted as such once
pub record Differs (old new : Tally) : Type 0 where
  pub asked : new.asked ≡ true
  pub differs : new.differs ≡ true
  pub differing : new.differing ≡ (if old.differs then old.differing else next_count old.differing)
  pub cases : new.cases ≡ old.cases
