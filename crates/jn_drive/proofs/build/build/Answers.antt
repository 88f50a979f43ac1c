use Rattle.std.proofs.Common.{◌≤◌, ℕ, List, subst, sym, refl}
use Rattle.jn_drive.specs.Words.{named}
use Rattle.jn_drive.specs.Saved.{IsImageFile}
use Rattle.jn_drive.proofs.Running.{does}
use Rattle.jn_drive.proofs.Saving.{nothing_saved, halt_undone, saved_does, still_read, still_saved}
use Rattle.jn_drive.proofs.build.build.Goals as goal

pub returns-in-Ok : goal.returns-in-Ok
returns-in-Ok g c =
    let writes = c.in-Ok.ensures.writes in
    saved_does (named c.args.job.now) _ _ c.requires.kind writes.0 c.as_slice.result.now c.out_name.result.now
    (still_read (named c.args.job.now) _ _ _ _ _ _ writes.0 c.save.ensures.rest c.save.ensures.reads writes.1)
    (subst (λ (xs : List ℕ). IsImageFile writes.0 xs) (sym c.as_slice.ensures) writes.2)
    c.out_name.ensures
    refl
    (subst (λ (n : ℕ). g.S.Store.read_faults c.args.store.now ≤ n) (sym c.save.ensures.reads) c.in-Ok.ensures.later)
    c.save.result
    (still_saved c.out_name.result.now c.as_slice.result.now _ _ _ _ _ _ _ _ c.save.result c.in-Ok.ensures.files c.in-Ok.ensures.saves c.save.ensures.saved)
    (subst (λ (n : ℕ). n ≤ g.S.Store.save_faults c.save.new.store) c.in-Ok.ensures.saves c.save.ensures.later)

pub returns-in-Err : goal.returns-in-Err
returns-in-Err g c =
    does (named c.args.job.now) _ _ _ _ (nothing_saved (named c.args.job.now) _ _ c.requires.kind c.in-Err.halt c.in-Err.ensures.writes) c.deliver.ensures (λ b. halt_undone c.in-Err.halt _ _ _ _ _ c.deliver.ensures)
    c.in-Err.ensures.files c.in-Err.ensures.saves c.in-Err.ensures.later
