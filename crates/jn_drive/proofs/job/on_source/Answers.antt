use Rattle.jn_drive.specs.declared.words.JobKind.TheVariants as kinds
use Rattle.jn_drive.specs.Words.{named}
use Rattle.jn_drive.proofs.Running.{does, keeps}
use Rattle.jn_drive.proofs.Coming.{source_comes}
use Rattle.jn_drive.proofs.job.on_source.Goals as goal

pub returns : goal.returns
returns g c =
    let answer = rw c.as_str.ensures.value at c.answer-answer.ensures.answer in
    does (named c.args.job.now) _ _ _ _ (source_comes (named c.args.job.now) _ _ _ c.answer-answer.result c.requires answer) c.deliver.ensures (λ b. absurd (keeps _ (kinds.OnSource c.args.kind) c.requires tt b)) c.answer-answer.ensures.files c.answer-answer.ensures.saves c.answer-answer.ensures.later
