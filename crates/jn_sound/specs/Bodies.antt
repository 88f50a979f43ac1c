-- A loop that comes again, a whole body, and the theorem.
use Rattle.std.specs.Prelude.{◌≡◌, ℕ, List}
use Rattle.jn_base.specs.declared.tree.Program.{Program}
use Rattle.jn_base.specs.WithinLimits.{IsWithinLimits}
use Rattle.jn_sem.specs.declared.outcome.Outcome.{Outcome}
use Rattle.jn_sem.specs.declared.outcome.Outcome.TheVariants as outcome
use Rattle.jn_sem.specs.declared.outcome.Why.{Why}
use Rattle.jn_sem.specs.Run.{Run}
use Rattle.jn_rules.specs.Verdict.{TreePasses}
use Rattle.jn_sound.specs.Needs.{Needs}

-- Each body of a program within the limits that is accepted fits where it begins, and each of its loops fits once more.
abbrev pub NeedsAreMet : Type 0
NeedsAreMet = (p : Program) → IsWithinLimits p → TreePasses p → Needs p

-- no run of the program is Stuck, whatever it is given of charges, arena and depth
abbrev pub IsNeverStuck : Program → Type 0
IsNeverStuck p = (charges arena depth : ℕ) (o : Outcome) (out : List ℕ) → Run p charges arena depth o out → (w : Why) →
    o ≡ outcome.Stuck w → ⊥

-- SOUNDNESS. A program within the limits that is accepted is never Stuck.
abbrev pub ProgramsNeverStuck : Type 0
ProgramsNeverStuck = (p : Program) → IsWithinLimits p → TreePasses p → IsNeverStuck p
