-- How a run of the runner came out.
use Rattle.std.specs.Prelude.{◌≡◌, ℕ, ◌≤◌, List, [], Result, IsErrOf, OnOk}
use Rattle.std.specs.declared.option.Option.{Option}
use Rattle.std.specs.Io.KnownBytes.{append_known}
use Rattle.jn_io.specs.Causes.{Rose}
use Rattle.jn_output.specs.Writes.{Wrote, Cut}
use Rattle.jn_base.specs.declared.tree.Program.{Program}
use Rattle.jn_sem.specs.declared.outcome.Outcome.{Outcome}
use Rattle.jn_sem.specs.Run.{Run}
use Rattle.jn_meaning.specs.declared.fault.MeanFault.{MeanFault}
use Rattle.jn_meaning.specs.declared.fault.MeanFault.TheVariants as fault

-- The program has a run with this outcome, and all of its output was taken. (Its run is one.)
pub record Ran (p : Program) (budget arena depth : ℕ) (o : Outcome) (before now : Option (List ℕ)) : Type 0 where
  pub output : List ℕ
  pub run : Run p budget arena depth o output
  pub took : now ≡ append_known before output

-- The same, where all of its output was written, and what is no whole piece waits.
pub record WroteRun (p : Program) (budget arena depth : ℕ) (o : Outcome) (before now : Option (List ℕ)) (waits : List ℕ) : Type 0 where
  pub output : List ℕ
  pub run : Run p budget arena depth o output
  pub wrote : Wrote before now [] waits output

-- A prefix of the run's output was taken.
abbrev pub CutShort : Program → (budget arena depth : ℕ) → (before now : Option (List ℕ)) → Type 0
CutShort p budget arena depth before now = (o : Outcome) (output : List ℕ) → Run p budget arena depth o output → Cut before now output

-- Only the sink's fault moves its count, and it comes only where the count rose.
pub record HasMeanCause {T : Type 0} (before now : ℕ) (result : Result T MeanFault) : Type 0 where
  pub later : before ≤ now
  pub failed : IsErrOf result fault.WriteFault → Rose before now
  pub kept : OnOk result (now ≡ before)
  pub no_memory : IsErrOf result fault.Memory → now ≡ before
