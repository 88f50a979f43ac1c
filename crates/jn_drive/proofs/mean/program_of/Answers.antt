use Rattle.std.proofs.lemmas.Result.{err_from_is_err_and}
use Rattle.jn_drive.proofs.Means.{text_line, tree_line}
use Rattle.jn_drive.proofs.mean.program_of.Goals as goal

pub returns-in_err-program : goal.returns-in_err-program
returns-in_err-program c =
    let p = err_from_is_err_and c.from_residual.result c.from_residual.ensures.1 in
    rw (p.1, p.2) (text_line c.args.source.now c.in_err-program.field-0.0 c.in_err-program.ensures)

pub returns-in_err-_world : goal.returns-in_err-_world
returns-in_err-_world c =
    let p = err_from_is_err_and c.from_residual-in_err-_world.result c.from_residual-in_err-_world.ensures.1 in
    rw (p.1, p.2) (tree_line c.args.source.now c.in_ok-program.program c.in_err-_world.field-0.0 c.in_ok-program.ensures c.in_err-_world.ensures)
