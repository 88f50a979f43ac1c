-- The way back: the canonical text of a program is a source of it.
use Rattle.std.specs.Prelude.{◌≡◌, ◌≤◌, ℕ, List, None, All, length, map}
use Rattle.jn_base.specs.declared.tree.Program.{Program}
use Rattle.jn_base.specs.Parts.{Part, lexeme_of}
use Rattle.jn_base.specs.Spelling.{SourceSpells, HasDifferent, limit_of, mask_numbers}
use Rattle.jn_printer.specs.DeclText.{program_text}
use Rattle.jn_base.specs.Unplaced.{IsSameButForPlaces}
use Rattle.jn_base.specs.WithinLimits.{IsWithinLimits}

-- The bytes spell p but for its places, and none of their words passes a limit: none counts more than a limit of the
-- grammar allows, no 257 masks are different, and there are no more than 65,535 names.
pub record SpellsWithin (p : Program) (bytes : List ℕ) : Type 0 where
  pub spelled : Program
  pub same : IsSameButForPlaces spelled p
  pub spells : SourceSpells spelled bytes
  pub counted : All (λ (t : Part). limit_of t.role ≡ None) spells.parts
  pub few_masks : HasDifferent 257 (mask_numbers (map lexeme_of spells.parts)) → ⊥
  pub few_names : length spelled.names ≤ 65535

-- The canonical text spells each program within the limits but for its places, and is itself within them.
abbrev pub WayBack : Program → List ℕ → Type 0
WayBack p bytes = IsWithinLimits p → SpellsWithin p bytes

-- Programs that are the same but for places have one canonical text.
abbrev pub PlacesUnseen : Type 0
PlacesUnseen = (p q : Program) → IsSameButForPlaces p q → program_text p ≡ program_text q
