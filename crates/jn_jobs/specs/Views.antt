-- What the code's values say in the words of the definitions.
use Rattle.std.specs.Prelude.{option_map, string_bytes}
use Rattle.jn_jobs.specs.Jobs.{Job, Target, job, target}
use Rattle.jn_jobs.specs.declared.Found.{Found}
use Rattle.jn_jobs.specs.declared.JobWords.{JobWords}
use Rattle.jn_jobs.specs.declared.target.Target.{Target as Taken}

-- A job, its texts by their bytes.
abbrev pub told : JobWords → Job
told j = record {
  kind = j.kind;
  file = string_bytes j.file;
  out = option_map string_bytes j.out;
  count = j.count;
  arena = j.arena;
  depth = j.depth;
  steps = j.steps;
}

abbrev pub target_seen : Taken → Target
target_seen t = target t.kind t.file.now (option_map (λ o. o.now) t.out) t.count

abbrev pub job_seen : Found → Job
job_seen f = job (target_seen f.target) f.arena f.depth f.steps
