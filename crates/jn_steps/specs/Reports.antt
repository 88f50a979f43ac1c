-- Runs of steps that are said by a relation.
use Rattle.std.specs.Prelude.{◌≡◌, ℕ, zero, suc, ◌≤◌, List, Some, ◌↔◌}
use Rattle.jn_steps.specs.Runs.{Report, Next, On, End, report, run}
use Rattle.jn_steps.specs.Laws.{GoesOn, KeepsOutput}

-- `Reports Step shown n x r`: r is the report of a run that has come to x, and makes at most n further steps. Here `Step s y`
-- says that a step leads from s to y, which may be the end.
abbrev pub Reports : {S O : Type 0} → (S → Next S O → Type 0) → (S → List ℕ) → ℕ → Next S O → Report O → Type 0
Reports {S} {O} Step shown zero x r = r ≡ report shown x
Reports {S} {O} Step shown (suc n) (On s) r = (y : Next S O) × Step s y × Reports Step shown n y r
Reports {S} {O} Step shown (suc n) (End o bytes) r = r ≡ record { outcome = Some o; output = bytes }

-- A relation as the type of its steps, of which each is from a state and leads to one, or to the end.
abbrev pub OneOf : {S O T : Type 0} → (T → S) → (T → Next S O) → S → Next S O → Type 0
OneOf {T = T} from to s y = (t : T) × (from t ≡ s) × (to t ≡ y)

-- each step keeps what was put
abbrev pub StepsKeep : {S O : Type 0} → (S → Next S O → Type 0) → (S → List ℕ) → Type 0
StepsKeep {S} {O} Step shown = (s : S) (x : Next S O) → Step s x → KeepsOutput shown (shown s) x

-- Of a run that was stopped earlier there is a report too, and the later one goes on from it.
abbrev pub StopsEarlier : {S O : Type 0} → (S → Next S O → Type 0) → (S → List ℕ) → Type 0
StopsEarlier {S} {O} Step shown =
    (k n : ℕ) (x : Next S O) (r : Report O) → k ≤ n → Reports Step shown n x r → (before : Report O) × Reports Step shown k x before × GoesOn before r

-- Where a function tells the step, the report is that of its run.
abbrev pub ReportsTheRun : {S O : Type 0} → (S → Next S O) → (S → List ℕ) → Type 0
ReportsTheRun {S} {O} step shown =
    (n : ℕ) (s : S) (r : Report O) → Reports (λ s y. step s ≡ y) shown n (On s) r ↔ (r ≡ run step shown n s)
