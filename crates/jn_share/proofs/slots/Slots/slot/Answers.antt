use Rattle.std.proofs.Common.{Some, None, List, subst}
use Rattle.jn_share.specs.declared.slots.SlotRow.{SlotRow}
use Rattle.jn_share.specs.Slots.{EntryTold}
use Rattle.jn_share.proofs.SlotsTold.{slot_some, slot_none, says_none}
use Rattle.jn_share.proofs.slots.Slots.slot.Goals as goal

pub returns-in-None-clause-told : goal.returns-in-None-clause-told
returns-in-None-clause-told c =
    let n = subst (λ (rows : List SlotRow). EntryTold rows c.args.id c.args.field None) c.deref.ensures.value c.in-None.ensures in
    slot_none c.args.self.now c.args.id c.args.field n

pub returns-in-None-clause-none : goal.returns-in-None-clause-none
returns-in-None-clause-none c = says_none c.args.self.now c.args.id c.args.field None (returns-in-None-clause-told c)

pub returns-in-Some-clause-told : goal.returns-in-Some-clause-told
returns-in-Some-clause-told c =
    let h = subst (λ (rows : List SlotRow). EntryTold rows c.args.id c.args.field (Some c.in-Some.entry.now)) c.deref.ensures.value c.in-Some.ensures in
    slot_some c.args.self.now c.args.id c.args.field c.in-Some.entry.now h

pub returns-in-Some-clause-none : goal.returns-in-Some-clause-none
returns-in-Some-clause-none c = says_none c.args.self.now c.args.id c.args.field (Some c.in-Some.entry.now.slot) (returns-in-Some-clause-told c)
