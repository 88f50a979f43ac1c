-- Calls that are numbered from 1, of which some are to fail.
use Rattle.std.specs.Prelude.{ℕ, ◌+◌, ◌-◌, ◌^◌, Bool, nat_lt, if◌then◌else◌, ◌==◌, List}
use Rattle.std.specs.List.{list_any}

-- one more, where the last value of a 64-bit counter stays
abbrev pub one_more : ℕ → ℕ
one_more n = if nat_lt n (2 ^ 64 - 1) then n + 1 else n

-- whether the call behind that many is one of those that are to fail
abbrev pub is_next_listed : List ℕ → ℕ → Bool
is_next_listed fails calls = list_any (λ n. n == one_more calls) fails

-- a count of faults after a call that failed or not
abbrev pub count_after : Bool → ℕ → ℕ
count_after failed count = if failed then one_more count else count
