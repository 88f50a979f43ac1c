use Rattle.jn_table.proofs.Flats.{adds_none, adds_inner, adds_slot, adds_body, adds_decl}
use Rattle.jn_table.proofs.entry.+flatten.Goals as goal
use Rattle.jn_table.proofs.entry.+flatten.Goals.{in-Inner+in_ok-flatten-in-Inner, in-Slot, in-Body}

pub loop-member-init : goal.loop-member-init
loop-member-init t c = adds_none _ _

pub loop-member-preserved : goal.loop-member-preserved
loop-member-preserved t c = elim c.match-member.branch [
  | in-Inner+in_ok-flatten-in-Inner w ↦
      rw w.entries-is
      (adds_inner _ _ _ _ _ _ _ _ _ c.loop-member-test.true c.member-item.is w.in-Inner.is c.in_ok-inner.ensures c.loop-member.invariant
      w.in_ok-flatten-in-Inner.ensures.adds)
  | in-Slot w ↦
      rw w.entries-is
      (adds_slot _ _ _ _ _ _ _ c.loop-member-test.true c.member-item.is w.in-Slot.is c.loop-member.invariant)
  | in-Body w ↦
      rw w.entries-is
      (adds_body _ _ _ _ _ _ _ c.loop-member-test.true c.member-item.is w.in-Body.is c.loop-member.invariant)
]

pub returns : goal.returns
returns t c = record {
  adds = adds_decl _ _ _ _ _ _ _ _ c.in_ok-entry.ensures c.as_slice-member-items.ensures c.loop-member-test.false c.in_ok-push.ensures.items c.loop-member.invariant;
}
