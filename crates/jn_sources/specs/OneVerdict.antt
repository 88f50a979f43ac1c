-- The first three steps of the verdict have one answer.
use Rattle.std.specs.Prelude.{◌≡◌, ◌⊎◌, ℕ, List}
use Rattle.jn_base.specs.declared.tree.Program.{Program}
use Rattle.jn_base.specs.declared.refusal.Refusal.{Refusal}
use Rattle.jn_base.specs.Spelling.{IsTextRefused, IsTextOf}

-- the source is the text of a program, or is refused
abbrev pub IsAnswered : List ℕ → Type 0
IsAnswered bytes = ((p : Program) × IsTextOf p bytes) ⊎ ((r : Refusal) × IsTextRefused bytes r)

-- The source is the text of one program, or has one refusal of its text, and not both.
pub record OneTextVerdict (bytes : List ℕ) : Type 0 where
  pub refusal : (r s : Refusal) → IsTextRefused bytes r → IsTextRefused bytes s → r ≡ s
  pub program : (p q : Program) → IsTextOf p bytes → IsTextOf q bytes → p ≡ q
  pub not_both : (p : Program) (r : Refusal) → IsTextOf p bytes → IsTextRefused bytes r → ⊥
  pub answered : IsAnswered bytes

abbrev pub TextVerdictIsOne : Type 0
TextVerdictIsOne = (bytes : List ℕ) → OneTextVerdict bytes
