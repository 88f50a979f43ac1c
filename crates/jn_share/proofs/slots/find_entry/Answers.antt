use Rattle.std.proofs.Common.{◌≡◌, false}
use Rattle.jn_reach.proofs.Searches.{none_all, not_when}
use Rattle.jn_share.proofs.Reading.{none_more_at}
use Rattle.jn_share.specs.declared.slots.FieldSlot.{FieldSlot}
use Rattle.jn_share.proofs.slots.find_entry.Goals as goal

pub loop-entry-preserved : goal.loop-entry-preserved
loop-entry-preserved c =
    none_more_at (λ (x : FieldSlot). x.field ≡ c.args.field) c.args.entries.now c.loop-entry.entry-index (record { field = record { 0 = 0 }; slot = 0; hangs = false })
    c.loop-entry-test.true (not_when c.if-is_field.false c.is_field.ensures) c.loop-entry.invariant

pub returns : goal.returns
returns c = λ e h n. none_all (λ (x : FieldSlot). x.field ≡ c.args.field) c.args.entries.now c.loop-entry.entry-index c.loop-entry-test.false c.loop-entry.invariant (h.0, e, h.1, h.2, n)
