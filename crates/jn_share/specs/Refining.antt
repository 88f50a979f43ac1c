-- A step that tells classes apart, and what all steps give.
use Rattle.std.specs.Prelude.{◌≡◌, ◌≤◌, ◌<◌, ◌+◌, ◌-◌, ◌⊎◌, ℕ, suc, List, [], ◌∷◌, slice_get, Some}
use Rattle.jn_base.specs.declared.tree.Program.{Program}
use Rattle.jn_base.specs.declared.path.Path.{Path as ShownPath}
use Rattle.jn_base.specs.Paths.{Path}
use Rattle.jn_table.specs.declared.field_types.FieldTypes.{FieldTypes}
use Rattle.jn_table.specs.declared.table.Table.{Table}
use Rattle.jn_sem.specs.Sharing.{IsClass}
use Rattle.jn_share.specs.declared.groups.Groups.{Groups}
use Rattle.jn_share.specs.declared.prepared.Prepared.{Prepared}
use Rattle.jn_share.specs.Pairing.{IsAt}
use Rattle.jn_share.specs.Parting.{SamePart, Alike, NotAlike, KeepsOne, IsStable}
use Rattle.jn_share.specs.Prepared.{IsPrepared}
use Rattle.jn_share.specs.Slots.{SlotsAsked}

-- each number has a part that is not greater
abbrev pub AreLow : List ℕ → Type 0
AreLow parts = (i n : ℕ) → slice_get parts i ≡ Some n → n ≤ i

-- no part gets less
abbrev pub Grows : List ℕ → List ℕ → Type 0
Grows parts next = (i n m : ℕ) → slice_get parts i ≡ Some n → slice_get next i ≡ Some m → n ≤ m

-- of each program that asks for slots, of which this is prepared, and of the path of the number, a class
abbrev pub SaysClass : Table → Groups → FieldTypes → Prepared → ℕ → (Program → Path → Type 0) → Type 0
SaysClass t g types all v T = (p : Program) (V : Path) → SlotsAsked p t g types → IsPrepared p t types.list.items all → IsAt t.known.items v V → IsClass p V → T p V

-- R is the class itself, or alike
pub record IsLike (p : Program) (known : List ShownPath) (Same : Path → Path → Type 0) (r : ℕ) (V : Path) : Type 0 where
  pub path : Path
  pub at : IsAt known r path
  pub class : IsClass p path
  pub like : (path ≡ V) ⊎ Alike p Same path V

-- r is the first of the numbers that is like V
pub record IsFirstLike (p : Program) (known : List ShownPath) (Same : Path → Path → Type 0) (Among : ℕ → Type 0) (r : ℕ) (V : Path) : Type 0 where
  pub is : IsLike p known Same r V
  pub first : (j : ℕ) (X : Path) → Among j → j < r → IsAt known j X → IsClass p X → NotAlike p Same X V

-- the next part of a class is the first class of its part that is like it
pub record Refines (p : Program) (known : List ShownPath) (parts next : List ℕ) (v : ℕ) (V : Path) : Type 0 where
  pub part : ℕ
  pub at : slice_get parts v ≡ Some part
  pub now : ℕ
  pub now_at : slice_get next v ≡ Some now
  pub within : slice_get parts now ≡ Some part
  pub first : IsFirstLike p known (SamePart known parts) (λ j. slice_get parts j ≡ Some part) now V

-- nothing more tells classes apart, and those that nothing may tell apart are together
pub record AreSettled (p : Program) (known : List ShownPath) (parts : List ℕ) : Type 0 where
  pub keeps : KeepsOne p (SamePart known parts)
  pub stable : IsStable p (SamePart known parts)

-- of each program that asks for slots, and of which this is prepared
abbrev pub SaysOfAll : Table → Groups → FieldTypes → Prepared → (Program → Type 0) → Type 0
SaysOfAll t g types all T = (p : Program) → SlotsAsked p t g types → IsPrepared p t types.list.items all → T p

-- the first n classes have their next parts
abbrev pub RefinesTo : Program → Table → List ℕ → List ℕ → ℕ → Type 0
RefinesTo p t parts next n = (k : ℕ) (V : Path) → k < n → IsAt t.known.items k V → IsClass p V → Refines p t.known.items parts next k V

-- how far the parts may still grow
abbrev pub slack_from : ℕ → List ℕ → ℕ
slack_from i [] = 0
slack_from i (n ∷ ns) = (i - n) + slack_from (suc i) ns
