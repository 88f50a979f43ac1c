use Rattle.std.proofs.Common.{sym, option_copied}
use Rattle.jn_share.proofs.SlotsTold.{row_told}
use Rattle.jn_share.proofs.slots.entry_at.Goals as goal

pub returns-in-Some : goal.returns-in-Some
returns-in-Some c =
    row_told c.args.rows.now c.args.id c.args.field c.in-Some.row.now (sym c.in-Some.ensures) c.deref.result.now c.deref.ensures.value (option_copied c.find_entry.result) c.find_entry.ensures
