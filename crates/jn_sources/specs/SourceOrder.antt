-- The order of the source is the order of places.
use Rattle.std.specs.Prelude.{ℕ, List, map}
use Rattle.std.specs.declared.cmp.Ordering.{Ordering}
use Rattle.std.specs.Ordering.{nat_cmp, on, then_cmp}
use Rattle.std.specs.List.Sorted.{IsStrictlySortedBy}
use Rattle.jn_base.specs.declared.tree.Decl.{Decl}
use Rattle.jn_base.specs.declared.tree.Named.{Named}
use Rattle.jn_base.specs.declared.tree.Place.{Place}
use Rattle.jn_base.specs.declared.tree.Program.{Program}
use Rattle.jn_base.specs.declared.refusal.Refusal.{Refusal}
use Rattle.jn_base.specs.Paths.{Path, StandsIn, nested, fields, methods}
use Rattle.jn_base.specs.Twice.{decl_name, field_name, method_name}
use Rattle.jn_base.specs.Duplicates.{duplicates}
use Rattle.jn_base.specs.Spelling.{SourceSpells}

-- by lines, and in one line by columns
abbrev pub place_cmp : Place → Place → Ordering
place_cmp = then_cmp (on (λ (at : Place). at.line) nat_cmp) (on (λ (at : Place). at.column) nat_cmp)

-- each place is before those behind it
abbrev pub Ascend : List Place → Type 0
Ascend places = IsStrictlySortedBy place_cmp places

abbrev pub named_places : List Named → List Place
named_places names = map (λ (n : Named). n.at) names

-- the names of the declarations, fields and methods in the body of d, each in source order
pub record BodyAscends (d : Decl) : Type 0 where
  pub declarations : Ascend (named_places (map decl_name (nested d.members)))
  pub fields_in : Ascend (named_places (map field_name (fields d.members)))
  pub methods_in : Ascend (named_places (map method_name (methods d.members)))

pub record AreInSourceOrder (p : Program) : Type 0 where
  -- what is found twice, as it is listed: so the first in the list is the first in the source
  pub duplicates_found : Ascend (map (λ (r : Refusal). r.at) (duplicates p))
  pub top : Ascend (named_places (map decl_name p.decls))
  pub bodies : (P : Path) (d : Decl) → StandsIn p P d → BodyAscends d

-- of each program that a source spells
abbrev pub PlacesAscend : Type 0
PlacesAscend = (p : Program) (bytes : List ℕ) → SourceSpells p bytes → AreInSourceOrder p
