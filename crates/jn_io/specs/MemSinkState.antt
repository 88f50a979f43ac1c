-- A sink in memory as contracts see it, and what a `put` makes of it.
use Rattle.std.specs.Prelude.{ℕ, ◌+◌, ◌-◌, Bool, if◌then◌else◌, ◌||◌, nat_lt, List, ◌++◌, length, take}
use Rattle.jn_io.specs.Calls.{one_more, is_next_listed, count_after}

pub record MemSinkState : Type 0 where
  -- the bytes taken
  pub taken : List ℕ
  -- how many bytes it can take in all
  pub room : ℕ
  -- the numbers of the puts that are to fail
  pub fails : List ℕ
  -- the number of the last put, 0 before the first
  pub calls : ℕ
  pub faults : ℕ

-- whether the next put is listed
abbrev pub is_listed : MemSinkState → Bool
is_listed s = is_next_listed s.fails s.calls

-- whether a put of these bytes fails: it is listed, or they would pass the room
abbrev pub is_refused : MemSinkState → List ℕ → Bool
is_refused s bytes = is_listed s || nat_lt s.room (length s.taken + length bytes)

-- how many bytes the next put can take: none where it is listed, and else what there is room for
abbrev pub most_taken : MemSinkState → ℕ
most_taken s = if is_listed s then 0 else s.room - length s.taken

abbrev pub after_put : MemSinkState → List ℕ → MemSinkState
after_put s bytes = record s {
  taken = s.taken ++ take (most_taken s) bytes;
  calls = one_more s.calls;
  faults = count_after (is_refused s bytes) s.faults;
}
