use Rattle.jn_reach.proofs.Searches.{not_when}
use Rattle.jn_views.specs.Turning.{masked_sides}
use Rattle.jn_views.proofs.Passings.{passes_by}
use Rattle.jn_views.proofs.passing.passes.Goals as goal

pub returns : goal.returns
returns c = λ p known U W are at also rel.
    passes_by p (masked_sides c.args.from c.args.to c.args.names.now) U W c.args.field c.one_slot.result (not_when c.if-is_masked.false c.is_masked.ensures)
    (not_when c.if-is_masked-2.false c.is_masked-2.ensures) (c.one_slot.ensures p known U W are at also rel)
