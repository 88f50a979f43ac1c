-- The place of a byte.
use Rattle.std.specs.Prelude.{ℕ, ◌+◌, ◌==◌, List, length, take, count_by}
use Rattle.std.specs.List.{after_last}
use Rattle.jn_base.specs.declared.tree.Place.{Place}
use Rattle.jn_base.specs.Tokens.{line_feed}

-- Lines and columns are counted from 1. Only a line feed ends a line, and a column counts the bytes behind the last
-- one before it.
abbrev pub place_of : List ℕ → ℕ → Place
place_of bytes at = record {
  line = 1 + count_by (λ b. b == line_feed) (take at bytes);
  column = 1 + length (after_last (λ b. b == line_feed) (take at bytes));
}
