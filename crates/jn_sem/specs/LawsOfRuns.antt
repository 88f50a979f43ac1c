-- What holds of every run of the meaning, whatever the program.
use Rattle.std.specs.Prelude.{◌≡◌, ◌≢◌, ℕ, ◌≤◌, List}
use Rattle.jn_steps.specs.Laws.{IsPrefix}
use Rattle.jn_base.specs.declared.tree.Program.{Program}
use Rattle.jn_sem.specs.declared.outcome.Outcome.{Outcome}
use Rattle.jn_sem.specs.declared.outcome.Outcome.TheVariants as outcome
use Rattle.jn_sem.specs.Run.{Run}

-- the same outcome and the same output
pub record SameRun (o q : Outcome) (out put : List ℕ) : Type 0 where
  pub outcome : o ≡ q
  pub output : out ≡ put

-- A program has one run with b charges, arena a and depth d.
abbrev pub RunIsOne : Type 0
RunIsOne = (p : Program) (b a d : ℕ) (o q : Outcome) (out put : List ℕ) → Run p b a d o out → Run p b a d q put → SameRun o q out put

-- And it is not so that it has none. (That it has one is not decided here: what is asked of the program are relations.)
abbrev pub RunIsThere : Type 0
RunIsThere = (p : Program) (b a d : ℕ) → ((o : Outcome) (out : List ℕ) → Run p b a d o out → ⊥) → ⊥

-- With more charges the output goes on from where it was, and an ended run stays as it is.
pub record GoesOnWith (o q : Outcome) (out put : List ℕ) : Type 0 where
  pub output : IsPrefix out put
  pub ended : o ≢ outcome.More → SameRun q o put out

abbrev pub RunGoesOn : Type 0
RunGoesOn = (p : Program) (m n a d : ℕ) (o q : Outcome) (out put : List ℕ) → m ≤ n → Run p m a d o out → Run p n a d q put
    → GoesOnWith o q out put
