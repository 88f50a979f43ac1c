-- The names of masks that were noted, in the order of their first mention, and what a word shows by them.
use Rattle.std.specs.Prelude.{ℕ, Bool, true, false, ◌&&◌, not, nat_eq, nat_le, List, length, Option, Some, None, if◌then◌else◌}
use Rattle.indexmap.specs.IndexSet.{insert_key}
use Rattle.std.specs.Set.{is_member}
use Rattle.jn_base.specs.declared.refusal.Limit.{Limit}
use Rattle.jn_base.specs.declared.refusal.Limit.TheVariants.{Masks}
use Rattle.jn_grammar.specs.TokenLimits.{passes_names}

-- the noted names with that of one more word, by its number, where it is that of a mask
abbrev pub noted : Bool → Option ℕ → List ℕ → List ℕ
noted true (Some n) ks = insert_key nat_eq ks n
noted true None ks = ks
noted false o ks = ks

-- the limit that the word passes
abbrev pub shown_by : List ℕ → Bool → Option ℕ → Option Limit
shown_by ks is_mask None = None
shown_by ks is_mask (Some n) = if is_mask && (not (is_member nat_eq ks n) && nat_le 256 (length ks)) then Some Masks else passes_names n
