use Rattle.std.proofs.Common.{refl}
use Rattle.std.proofs.lemmas.Option.{slice_get_read}
use Rattle.jn_table.proofs.Shown.{says_sup}
use Rattle.jn_table.proofs.table.Table.sup.Goals as goal

pub returns : goal.returns
returns c =
    says_sup _ _ _ c.index.result.now _ (slice_get_read _ _ _ _ refl c.requires.a c.index.ensures)
    (rw c.deref.ensures.value at c.has_class.ensures)
