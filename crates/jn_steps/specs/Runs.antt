-- A run is a step that is made again and again, a bounded number of times.
use Rattle.std.specs.Prelude.{ℕ, zero, suc, List, Option, Some, None}

-- How far a run came: the outcome, where it has ended, and the bytes that it has put.
pub record Report (O : Type 0) : Type 0 where
  pub outcome : Option O
  pub output : List ℕ

-- A step leads on to a state, or ends the run with an outcome and all the bytes that the run has put.
pub data Next (S O : Type 0) : Type 0 where
  On : S → Next S O
  End : (outcome : O) (output : List ℕ) → Next S O

-- what comes after a step, where the run has not ended
abbrev pub and_then : {S O : Type 0} → Next S O → (S → Next S O) → Next S O
and_then (On s) go = go s
and_then (End o bytes) go = End o bytes

-- where at most n steps lead from a state
abbrev pub after : {S O : Type 0} → (S → Next S O) → ℕ → S → Next S O
after step zero s = On s
after step (suc n) s = and_then (step s) (after step n)

-- how far that is, where a state shows what was put
abbrev pub report : {S O : Type 0} → (S → List ℕ) → Next S O → Report O
report shown (On s) = record { outcome = None; output = shown s }
report shown (End o bytes) = record { outcome = Some o; output = bytes }

-- a run of at most n steps from a state
abbrev pub run : {S O : Type 0} → (S → Next S O) → (S → List ℕ) → ℕ → S → Report O
run step shown n s = report shown (after step n s)
