use Rattle.std.proofs.Common.{subst, List, ℕ}
use Rattle.jn_drive.specs.Means.{Accepts}
use Rattle.jn_drive.specs.Words.{named}
use Rattle.jn_drive.proofs.Means.{front_found}
use Rattle.jn_drive.proofs.mean.found.Goals as goal

pub returns-clause-finds : goal.returns-clause-finds
returns-clause-finds g c =
    let read = rw c.as_str.ensures.value at c.in_ok-source.ensures.read in
    front_found (named c.args.job.now) _ _ _ _ _ c.program_of.result c.requires read (subst (λ (bs : List ℕ). Accepts bs c.program_of.result) c.as_slice.ensures c.program_of.ensures)
