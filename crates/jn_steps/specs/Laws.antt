-- What holds of every run.
use Rattle.std.specs.Prelude.{◌≡◌, ℕ, ◌+◌, ◌≤◌, List, ◌++◌, IsSome}
use Rattle.jn_steps.specs.Runs.{Report, Next, On, End, and_then, after, run}

-- the second list begins with the first
abbrev pub IsPrefix : List ℕ → List ℕ → Type 0
IsPrefix a b = (rest : List ℕ) × (a ++ rest ≡ b)

-- A report goes on from an earlier one: it begins with what was put, and it is the same where the run had ended.
pub record GoesOn {O : Type 0} (earlier later : Report O) : Type 0 where
  pub output : IsPrefix earlier.output later.output
  pub ended : IsSome earlier.outcome → later ≡ earlier

-- what was put before the step still stands after it
abbrev pub KeepsOutput : {S O : Type 0} → (S → List ℕ) → List ℕ → Next S O → Type 0
KeepsOutput shown before (On s) = IsPrefix before (shown s)
KeepsOutput shown before (End o bytes) = IsPrefix before bytes

-- each step keeps what was put
abbrev pub OutputGrows : {S O : Type 0} → (S → Next S O) → (S → List ℕ) → Type 0
OutputGrows {S} step shown = (s : S) → KeepsOutput shown (shown s) (step s)

-- A run with more steps goes on from where it was.
abbrev pub RunsGoOn : {S O : Type 0} → (S → Next S O) → (S → List ℕ) → Type 0
RunsGoOn {S} step shown = (m n : ℕ) (s : S) → m ≤ n → GoesOn (run step shown m s) (run step shown n s)

-- A run of m + n steps is one of m steps, and then one of n.
abbrev pub RunsInParts : {S O : Type 0} → (S → Next S O) → Type 0
RunsInParts {S} step = (m n : ℕ) (s : S) → after step (m + n) s ≡ and_then (after step m s) (after step n)
