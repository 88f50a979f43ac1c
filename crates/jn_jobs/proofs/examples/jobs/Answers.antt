use Rattle.std.proofs.Common.{refl}
use Rattle.jn_jobs.specs.Jobs.{job_of}
use Rattle.jn_jobs.proofs.examples.jobs.Goals as goal

pub returns : goal.returns
unfolding job_of
returns c = record {
  run = refl;
  build = refl;
  big = refl;
  no_out = refl;
  twice = refl;
  no_value = refl;
  help = refl;
}
