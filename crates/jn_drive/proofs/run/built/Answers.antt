use Rattle.std.proofs.Common.{subst, sym}
use Rattle.jn_link.specs.Joined.{IsImageOf}
use Rattle.jn_drive.specs.Built.{Builds}
use Rattle.jn_drive.proofs.Building.{handed, text_stops, tree_stops}
use Rattle.jn_drive.proofs.run.built.Goals as goal

pub returns-in_err-program : goal.returns-in_err-program
returns-in_err-program c =
    handed c.from_residual.result c.in_err-program.field-0.0 c.from_residual.ensures.1 (Builds c.args.source.now) (text_stops c.args.source.now c.in_err-program.field-0.0 c.in_err-program.ensures)

pub returns-in_err-world : goal.returns-in_err-world
returns-in_err-world c =
    handed c.from_residual-in_err-world.result c.in_err-world.field-0.0 c.from_residual-in_err-world.ensures.1 (Builds c.args.source.now)
    (tree_stops c.args.source.now c.in_ok-program.program c.in_err-world.field-0.0 c.in_ok-program.ensures c.in_err-world.ensures)

pub verify-requires : goal.verify-requires
verify-requires c = (c.in_ok-image.ensures c.args.source.now c.in_ok-program.ensures).in_form

pub returns-in-Ok : goal.returns-in-Ok
returns-in-Ok c = (
  c.in_ok-program.program,
  c.in_ok-program.ensures,
  c.in_ok-world.ensures.0,
  subst (IsImageOf c.in_ok-program.program) (sym c.in-Ok.ensures.ok.0) (c.in_ok-image.ensures c.args.source.now c.in_ok-program.ensures),
)
