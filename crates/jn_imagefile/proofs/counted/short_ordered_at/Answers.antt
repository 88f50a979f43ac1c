use Rattle.jn_code.specs.SpellsFields.{part}
use Rattle.jn_imagefile.proofs.counted.short_ordered_at.Goals as goal

pub returns : goal.returns
unfolding part
returns g c = rw (c.in_ok-count.ensures, ← c.from.ensures) c.entries_at.ensures
