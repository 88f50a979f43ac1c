-- Words worked out.
use Rattle.std.specs.Prelude.{ℕ, ◌≡◌, [], ◌∷◌, Option, Some, None, codes}
use Rattle.jn_jobs.specs.Parts.{Text}
use Rattle.jn_jobs.specs.Jobs.{Job, job_of}
use Rattle.jn_jobs.specs.declared.JobKind.{JobKind}
use Rattle.jn_jobs.specs.declared.JobKind.TheVariants as kind

abbrev pub job : JobKind → Text → Option Text → (count arena depth steps : ℕ) → Option Job
job k file out count arena depth steps =
    Some (record { kind = k; file = file; out = out; count = count; arena = arena; depth = depth; steps = steps })

pub record JobExamples : Type 0 where
  pub run : job_of (codes "run" ∷ codes "a.j" ∷ []) ≡ job kind.Run (codes "a.j") None 0 1048576 1000 100000000
  pub build : job_of (codes "--depth=9" ∷ codes "build" ∷ codes "--" ∷ codes "-a" ∷ codes "--" ∷ []) ≡ job kind.Build (codes "-a") (Some (codes "--")) 0 1048576 9 100000000
  pub big : job_of (codes "big" ∷ codes "--steps" ∷ codes "07" ∷ codes "07" ∷ []) ≡ job kind.Big (codes "07") None 7 1048576 1000 7
  pub no_out : job_of (codes "build" ∷ codes "a.j" ∷ []) ≡ None
  pub twice : job_of (codes "run" ∷ codes "a.j" ∷ codes "--depth=1" ∷ codes "--depth" ∷ codes "1" ∷ []) ≡ None
  pub no_value : job_of (codes "run" ∷ codes "a.j" ∷ codes "--depth" ∷ []) ≡ None
  pub help : job_of (codes "run" ∷ codes "--help" ∷ []) ≡ None
