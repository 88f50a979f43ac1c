use Rattle.std.proofs.Common.{ap, subst, List, ℕ, Ok, Err}
use Rattle.jn_drive.specs.Words.{named}
use Rattle.jn_drive.specs.Reading.{most_read}
use Rattle.jn_drive.specs.Built.{Builds, Makes, IsMachineOf}
use Rattle.jn_drive.proofs.Building.{handed, front_of, machine_makes, halt_reads}
use Rattle.jn_drive.proofs.run.made.Goals as goal

pub returns-in_err-image-clause-makes : goal.returns-in_err-image-clause-makes
returns-in_err-image-clause-makes g c =
    let read = rw c.as_str.ensures.value at c.in_ok-source.ensures.read in
    let front = front_of (named c.args.job.now) _ _ _ _ c.in_ok-source.source (ap most_read c.requires) read in
    handed c.from_residual-in_err-image.result c.in_err-image.field-0.0 c.from_residual-in_err-image.ensures.1 (Makes (named c.args.job.now) _ _ _ _)
    (halt_reads (λ bytes m. IsMachineOf bytes c.args.job.now.words.arena c.args.job.now.words.depth m) (named c.args.job.now) _ _ _ _ c.in_ok-source.source c.in_err-image.field-0.0 front
    (subst (λ (bs : List ℕ). Builds bs (Err c.in_err-image.field-0.0)) c.as_slice.ensures c.in_err-image.ensures))

pub returns-clause-makes : goal.returns-clause-makes
returns-clause-makes g c =
    let read = rw c.as_str.ensures.value at c.in_ok-source.ensures.read in
    let front = front_of (named c.args.job.now) _ _ _ _ c.in_ok-source.source (ap most_read c.requires) read in
    machine_makes (named c.args.job.now) _ _ _ _ c.in_ok-source.source c.in_ok-image.image _ front
    (subst (λ (bs : List ℕ). Builds bs (Ok c.in_ok-image.image)) c.as_slice.ensures c.in_ok-image.ensures)
    c.in_ok-make.ensures
