use Rattle.std.proofs.Common.{sym, option_copied}
use Rattle.jn_header.proofs.Finding.{no_row, head_told}
use Rattle.jn_header.proofs.least.head_at.Goals as goal

pub returns-in-None : goal.returns-in-None
returns-in-None c = λ p known R are n. no_row p known c.args.rows.now are c.args.id R n c.args.name (sym c.in-None.ensures)

pub returns-in-Some : goal.returns-in-Some
returns-in-Some c = λ p known R are n.
    head_told p known c.args.rows.now are c.args.id R n c.args.name c.in-Some.row.now (sym c.in-Some.ensures) (option_copied c.find_head.result) c.find_head.ensures
