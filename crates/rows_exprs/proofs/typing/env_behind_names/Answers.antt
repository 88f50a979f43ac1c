use Rattle.jn_expr.specs.Envs.{parts}
use Rattle.rows_exprs.proofs.Parts.{named, are_parts}
use Rattle.rows_exprs.proofs.typing.env_behind_names.Goals as goal

pub check_headers-requires-clause-table : goal.check_headers-requires-clause-table
check_headers-requires-clause-table c = c.in_ok-table.ensures.table (named c.args.p.now c.requires.limits)

pub returns-in_ok-env_with-in-Ok : goal.returns-in_ok-env_with-in-Ok
returns-in_ok-env_with-in-Ok c =
    are_parts c.args.p.now c.check_headers.new.t c.in-Ok.headers (parts c.in_ok-env_with-in-Ok.field-0) c.requires.limits c.requires.once
    c.in-Ok.ensures.parts c.in_ok-env_with-in-Ok.ensures
