use Rattle.jn_drive.specs.declared.words.JobKind.TheVariants as kinds
use Rattle.jn_drive.specs.Words.{named}
use Rattle.jn_drive.proofs.Means.{nothing_means, meaning_does}
use Rattle.jn_drive.proofs.Running.{does, keeps}
use Rattle.jn_drive.proofs.mean.mean.Goals as goal

pub returns-in-Ok : goal.returns-in-Ok
returns-in-Ok g c =
    let finds = c.in-Ok.ensures.finds in
    meaning_does (named c.args.job.now) _ _ c.requires c.in-Ok.program finds.0 finds.1 finds.2 finds.3 _ c.run_and_tell.ensures c.in-Ok.ensures.files c.in-Ok.ensures.saves c.in-Ok.ensures.later

pub returns-in-Err : goal.returns-in-Err
returns-in-Err g c = does (named c.args.job.now) _ _ _ _ (nothing_means (named c.args.job.now) _ _ c.requires c.in-Err.halt c.in-Err.ensures.finds) c.deliver.ensures (λ b. absurd (keeps _ (kinds.Mean) c.requires tt b)) c.in-Err.ensures.files c.in-Err.ensures.saves c.in-Err.ensures.later
