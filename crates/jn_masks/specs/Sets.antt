-- Sets of masks.
use Rattle.std.specs.Prelude.{ℕ}
use Rattle.jn_base.specs.declared.types.Masks.{Masks}
use Rattle.jn_base.specs.Atoms.{HasMask}

-- each mask of m is one of n
abbrev pub IsWithin : Masks → Masks → Type 0
IsWithin m n = (i : ℕ) → HasMask m i → HasMask n i
