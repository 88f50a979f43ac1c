use Rattle.std.proofs.Common.{Some, None, List, subst}
use Rattle.jn_share.specs.declared.slots.SlotRow.{SlotRow}
use Rattle.jn_share.specs.Slots.{EntryTold}
use Rattle.jn_share.proofs.SlotsTold.{says_hangs, says_no_hangs}
use Rattle.jn_share.proofs.slots.Slots.hangs.Goals as goal

pub returns-in-None : goal.returns-in-None
returns-in-None c =
    says_no_hangs c.args.self.now c.args.id c.args.field (subst (λ (rows : List SlotRow). EntryTold rows c.args.id c.args.field None) c.deref.ensures.value c.in-None.ensures)

pub returns-in-Some : goal.returns-in-Some
returns-in-Some c =
    says_hangs c.args.self.now c.args.id c.args.field c.in-Some.entry.now
    (subst (λ (rows : List SlotRow). EntryTold rows c.args.id c.args.field (Some c.in-Some.entry.now)) c.deref.ensures.value c.in-Some.ensures)
