use Rattle.std.proofs.Common.{◌≡◌, Some, List, slice_get, refl, sym, subst}
use Rattle.jn_share.specs.declared.slots.SlotRow.{SlotRow}
use Rattle.jn_share.proofs.slots.Slots.size.Goals as goal

pub returns-in-Some-clause-none : goal.returns-in-Some-clause-none
returns-in-Some-clause-none c = λ p known V are at n.
    let here = subst (λ (rows : List SlotRow). slice_get rows c.args.id.0 ≡ Some c.in-Some.row.now) c.deref.ensures.value (sym c.in-Some.ensures) in
    are.no_size c.args.id V c.in-Some.row.now.size at n (record { row = c.in-Some.row.now; at = here; is = refl })
