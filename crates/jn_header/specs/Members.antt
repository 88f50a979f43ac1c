-- The first name of a class that breaks a rule.
use Rattle.std.specs.Prelude.{◌≡◌, ◌<◌, ℕ, List, slice_get, Option, Some, None}
use Rattle.jn_base.specs.declared.tree.Name.{Name}
use Rattle.jn_base.specs.declared.tree.Program.{Program}
use Rattle.jn_sem.specs.Holds.{IsFirstName}
use Rattle.jn_rules.specs.Members.{NoName}

-- f is the first of the names of which T holds
pub record IsFirstIn (T : Name → Type 0) (names : List Name) (f : Name) : Type 0 where
  pub place : ℕ
  pub at : slice_get names place ≡ Some f
  pub holds : T f
  pub first : (j : ℕ) (g : Name) → j < place → slice_get names j ≡ Some g → T g → ⊥

-- that one, or none where T holds of none
abbrev pub FirstOf : (Name → Type 0) → List Name → Option Name → Type 0
FirstOf T names (Some f) = IsFirstIn T names f
FirstOf T names None = (j : ℕ) (g : Name) → slice_get names j ≡ Some g → T g → ⊥

-- the first name, by its bytes, of which T holds, or none where T holds of no name
abbrev pub FirstBad : Program → (Name → Type 0) → Option Name → Type 0
FirstBad p T (Some f) = IsFirstName p T f
FirstBad p T None = NoName T
