use Rattle.std.proofs.Common.{subst, sym}
use Rattle.jn_table.specs.declared.table.Table.{Table}
use Rattle.jn_share.specs.Slots.{SlotsAsked}
use Rattle.jn_header.proofs.Judging.{slots_asked}
use Rattle.jn_header.proofs.shared.shared_of.Goals as goal

pub slots_of-requires-clause-asked : goal.slots_of-requires-clause-asked
slots_of-requires-clause-asked c =
    subst (λ (t : Table). SlotsAsked c.args.p.now t c.in-Ok.groups c.in-Ok-types_of.types) (sym c.in-Ok-types_of.ensures.kept)
    (slots_asked c.args.p.now c.args.t.now c.in-Ok.groups c.in-Ok-types_of.types c.requires.limits c.requires.once c.requires.filled c.requires.members c.in-Ok.ensures
    c.in-Ok-types_of.ensures.told)
