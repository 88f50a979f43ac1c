use Rattle.std.proofs.Common.{ap, subst, sym, List, ℕ, ◌≤◌, length, Ok, Err}
use Rattle.jn_code.specs.declared.image.Image.{Image}
use Rattle.jn_code.specs.Form.{InForm}
use Rattle.jn_code.specs.Spells.{Spells, file_of, limit}
use Rattle.jn_drive.specs.Words.{named}
use Rattle.jn_drive.specs.Reading.{most_read}
use Rattle.jn_drive.specs.Built.{Builds, Writes}
use Rattle.jn_drive.specs.Saved.{IsImageFile}
use Rattle.jn_drive.proofs.Building.{handed, front_of, file_written, halt_reads}
use Rattle.jn_drive.proofs.build.image_bytes.Goals as goal

pub returns-in_err-image-clause-writes : goal.returns-in_err-image-clause-writes
returns-in_err-image-clause-writes g c =
    let read = rw c.as_str.ensures.value at c.in_ok-source.ensures.read in
    let front = front_of (named c.args.job.now) _ _ _ _ c.in_ok-source.source (ap most_read c.requires) read in
    handed c.from_residual-in_err-image.result c.in_err-image.field-0.0 c.from_residual-in_err-image.ensures.1 (Writes (named c.args.job.now) _ _ _ _)
    (halt_reads IsImageFile (named c.args.job.now) _ _ _ _ c.in_ok-source.source c.in_err-image.field-0.0 front
    (subst (λ (bs : List ℕ). Builds bs (Err c.in_err-image.field-0.0)) c.as_slice.ensures c.in_err-image.ensures))

pub write_image-requires-clause-form : goal.write_image-requires-clause-form
write_image-requires-clause-form g c = subst InForm (sym c.image-2.ensures.same) c.image-2.ensures.form

pub write_image-requires-clause-within : goal.write_image-requires-clause-within
write_image-requires-clause-within g c = subst (λ (i : Image). length (file_of i) ≤ limit) (sym c.image-2.ensures.same) c.in_ok-image.ensures.3.within

pub returns-clause-writes : goal.returns-clause-writes
returns-clause-writes g c =
    let read = rw c.as_str.ensures.value at c.in_ok-source.ensures.read in
    let front = front_of (named c.args.job.now) _ _ _ _ c.in_ok-source.source (ap most_read c.requires) read in
    file_written (named c.args.job.now) _ _ _ _ c.in_ok-source.source c.in_ok-image.image c.from_vec.result front
    (subst (λ (bs : List ℕ). Builds bs (Ok c.in_ok-image.image)) c.as_slice.ensures c.in_ok-image.ensures)
    (subst (λ (xs : List ℕ). Spells c.in_ok-image.image xs) (sym c.from_vec.ensures) (subst (λ (i : Image). Spells i c.in_ok-write_image.field-0.items) c.image-2.ensures.same c.in_ok-write_image.ensures))
