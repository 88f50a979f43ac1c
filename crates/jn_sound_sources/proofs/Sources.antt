-- The program of an accepted source is never Stuck.
use Rattle.std.proofs.Common.{◌≡◌, ◌≢◌, ℕ, List, refl, subst}
use Rattle.std.specs.Prelude.{Some, Result, Ok, Err}
use Rattle.jn_base.specs.declared.tree.Program.{Program}
use Rattle.jn_base.specs.declared.refusal.Refusal.{Refusal}
use Rattle.jn_base.specs.Spelling.{IsTextOf}
use Rattle.jn_base.specs.WithinLimits.{IsWithinLimits}
use Rattle.jn_sem.specs.declared.outcome.Outcome.{Outcome}
use Rattle.jn_sem.specs.declared.outcome.Outcome.TheVariants as outcome
use Rattle.jn_sem.specs.declared.outcome.Why.{Why}
use Rattle.jn_code.specs.Machine.{Halt}
use Rattle.jn_code.specs.Machine as machine
use Rattle.jn_agree.specs.Agrees.{halt_as}
use Rattle.jn_sources.proofs.Answered.{one_verdict}
use Rattle.jn_rules.specs.Plans.{Nothing}
use Rattle.jn_rules.specs.Verdict.{IsAccepted, TreePasses, of_text, of_tree}
use Rattle.jn_sound_sources.specs.Sources.{SourcesNeverStuck, SourcesHalt}
use Rattle.jn_sound.proofs.NeverStuck.{never_stuck}

text_within : (p : Program) (bytes : List ℕ) → IsTextOf p bytes → IsWithinLimits p
text_within p bytes t = record { source = bytes; spelled = p; same = refl; is_text = t }

not_refused : {r : Refusal} → (let v : Result Nothing Refusal = Ok tt in v ≡ Err r) → ⊥
not_refused e = cc

-- the tree of an accepted source passes
tree_passes : (bytes : List ℕ) → IsAccepted bytes → (p : Program) → IsTextOf p bytes → TreePasses p
tree_passes bytes (of_text r h e) p t = absurd (not_refused e)
tree_passes bytes (of_tree q u passes) p t = subst TreePasses ((one_verdict bytes).program q p u t) passes

pub sources_never_stuck : SourcesNeverStuck
sources_never_stuck bytes a p t = never_stuck p (text_within p bytes t) (tree_passes bytes a p t)

end_has_halt : (o : Outcome) → o ≢ outcome.More → ((w : Why) → o ≡ outcome.Stuck w → ⊥)
    → (q : Halt) × (halt_as o ≡ Some q)
end_has_halt outcome.Ends m s = (machine.Done, refl)
end_has_halt outcome.Null m s = (machine.Null, refl)
end_has_halt outcome.Zero m s = (machine.Zero, refl)
end_has_halt outcome.Arena m s = (machine.Arena, refl)
end_has_halt outcome.Depth m s = (machine.Depth, refl)
end_has_halt outcome.More m s = absurd (m refl)
end_has_halt (outcome.Stuck w) m s = absurd (s w refl)

pub sources_halt : SourcesHalt
sources_halt bytes a p t b arena d out o range run more =
    end_has_halt o more (sources_never_stuck bytes a p t b arena d o out run)
