-- Soundness of sources.
use Rattle.std.specs.Prelude.{ℕ, List}
use Rattle.jn_base.specs.declared.tree.Program.{Program}
use Rattle.jn_base.specs.Spelling.{IsTextOf}
use Rattle.jn_rules.specs.Verdict.{IsAccepted}
use Rattle.jn_agree.specs.Agrees.{NeverStuck}
use Rattle.jn_sound.specs.Bodies.{IsNeverStuck}

-- The program of an accepted source is never Stuck.
abbrev pub SourcesNeverStuck : Type 0
SourcesNeverStuck = (bytes : List ℕ) → IsAccepted bytes → (p : Program) → IsTextOf p bytes → IsNeverStuck p

-- So what the laws of images ask of a meaning holds of each accepted source: with each arena and depth in their ranges,
-- a run that doesn't ask for more charges ends as a machine can halt.
abbrev pub SourcesHalt : Type 0
SourcesHalt = (bytes : List ℕ) → IsAccepted bytes → (p : Program) → IsTextOf p bytes → NeverStuck p
