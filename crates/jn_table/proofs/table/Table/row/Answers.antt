use Rattle.std.proofs.Common.{refl}
use Rattle.std.proofs.lemmas.Option.{slice_get_read}
use Rattle.jn_table.proofs.Shown.{says_row}
use Rattle.jn_table.proofs.table.Table.row.Goals as goal

pub returns : goal.returns
returns c = says_row _ _ _ (slice_get_read _ _ _ _ refl c.requires c.index.ensures)
