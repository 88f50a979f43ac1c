use Rattle.std.proofs.Common.{◌∙◌, ap, refl, codes, None}
use Rattle.clap.specs.Words.{found_of, rows_of}
use Rattle.jn_jobs.specs.Parts.{Arena, Depth, Steps, name_of}
use Rattle.jn_jobs.specs.Jobs.{bound_in, target_in}
use Rattle.jn_jobs.specs.Command.{parts_of}
use Rattle.jn_jobs.proofs.Numbers.{job_by, values_are}
use Rattle.jn_jobs.proofs.found_in.Goals as goal

pub returns-in_err-target : goal.returns-in_err-target
returns-in_err-target c =
    let f = found_of c.args.matches.now in
    let target = c.target_in.ensures ∙ ap target_in (values_are f (codes "words") _ c.get_raw.ensures) in
    rw c.from_residual.ensures (job_by (parts_of (rows_of f)) None _ _ _ (rw c.in_err-target.was at target) refl refl refl)

pub returns-in_err-arena : goal.returns-in_err-arena
returns-in_err-arena c =
    let f = found_of c.args.matches.now in
    let target = c.target_in.ensures ∙ ap target_in (values_are f (codes "words") _ c.get_raw.ensures) in
    let arena = c.bound.ensures.is ∙ ap (bound_in 1048576 67108864) (values_are f (name_of Arena) _ c.get_raw-2.ensures) in
    rw c.from_residual-in_err-arena.ensures (job_by (parts_of (rows_of f)) _ None _ _ (rw c.in_ok-target.was at target) (rw c.in_err-arena.was at arena) refl refl)

pub returns-in_err-depth : goal.returns-in_err-depth
returns-in_err-depth c =
    let f = found_of c.args.matches.now in
    let target = c.target_in.ensures ∙ ap target_in (values_are f (codes "words") _ c.get_raw.ensures) in
    let arena = c.bound.ensures.is ∙ ap (bound_in 1048576 67108864) (values_are f (name_of Arena) _ c.get_raw-2.ensures) in
    let depth = c.bound-2.ensures.is ∙ ap (bound_in 1000 10000) (values_are f (name_of Depth) _ c.get_raw-3.ensures) in
    rw c.from_residual-in_err-depth.ensures (job_by (parts_of (rows_of f)) _ _ None _ (rw c.in_ok-target.was at target) (rw c.in_ok-arena.was at arena) (rw c.in_err-depth.was at depth) refl)

pub returns-in_err-steps : goal.returns-in_err-steps
returns-in_err-steps c =
    let f = found_of c.args.matches.now in
    let target = c.target_in.ensures ∙ ap target_in (values_are f (codes "words") _ c.get_raw.ensures) in
    let arena = c.bound.ensures.is ∙ ap (bound_in 1048576 67108864) (values_are f (name_of Arena) _ c.get_raw-2.ensures) in
    let depth = c.bound-2.ensures.is ∙ ap (bound_in 1000 10000) (values_are f (name_of Depth) _ c.get_raw-3.ensures) in
    let steps = c.bound-3.ensures.is ∙ ap (bound_in 100000000 1000000000000) (values_are f (name_of Steps) _ c.get_raw-4.ensures) in
    rw c.from_residual-in_err-steps.ensures (job_by (parts_of (rows_of f)) _ _ _ None (rw c.in_ok-target.was at target) (rw c.in_ok-arena.was at arena) (rw c.in_ok-depth.was at depth) (rw c.in_err-steps.was at steps))

pub returns : goal.returns
returns c =
    let f = found_of c.args.matches.now in
    let target = c.target_in.ensures ∙ ap target_in (values_are f (codes "words") _ c.get_raw.ensures) in
    let arena = c.bound.ensures.is ∙ ap (bound_in 1048576 67108864) (values_are f (name_of Arena) _ c.get_raw-2.ensures) in
    let depth = c.bound-2.ensures.is ∙ ap (bound_in 1000 10000) (values_are f (name_of Depth) _ c.get_raw-3.ensures) in
    let steps = c.bound-3.ensures.is ∙ ap (bound_in 100000000 1000000000000) (values_are f (name_of Steps) _ c.get_raw-4.ensures) in
    job_by (parts_of (rows_of f)) _ _ _ _ (rw c.in_ok-target.was at target) (rw c.in_ok-arena.was at arena) (rw c.in_ok-depth.was at depth) (rw c.in_ok-steps.was at steps)
