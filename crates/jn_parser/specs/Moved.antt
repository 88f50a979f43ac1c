-- Where one stands behind bytes, from a place on.
use Rattle.std.specs.Prelude.{ℕ, ◌+◌, ◌==◌, List, [], ◌∷◌, if◌then◌else◌}
use Rattle.jn_base.specs.declared.tree.Place.{Place}
use Rattle.jn_base.specs.Tokens.{line_feed}

-- a line feed ends a line
abbrev pub next_place : Place → ℕ → Place
next_place p b = if b == line_feed then record { line = p.line + 1; column = 1 } else record { line = p.line; column = p.column + 1 }

abbrev pub moved : Place → List ℕ → Place
moved p [] = p
moved p (b ∷ bs) = moved (next_place p b) bs
