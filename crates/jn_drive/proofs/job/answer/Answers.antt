use Rattle.std.proofs.Common.{subst, List, ℕ}
use Rattle.jn_drive.specs.Answer.{Judges}
use Rattle.jn_drive.proofs.Judging.{bytes_answered}
use Rattle.jn_drive.proofs.job.answer.Goals as goal

pub returns-clause-answer : goal.returns-clause-answer
returns-clause-answer g c =
    let read = c.in_ok-source.ensures.read in
    bytes_answered _ _ _ read.1.0 c.in_ok-source.source _ _ _ read.1.1 read.1.2 read.1.3 read.0 _ (subst (λ (bs : List ℕ). Judges c.args.kind bs c.judge.result) c.as_slice.ensures c.judge.ensures)
