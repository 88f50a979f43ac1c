use Rattle.std.proofs.Common.{refl}
use Rattle.std.proofs.lemmas.Option.{slice_get_read}
use Rattle.jn_reach.proofs.Searches.{not_when}
use Rattle.jn_table.proofs.Mixed.{mixed_here, mixed_more, mixed_none}
use Rattle.jn_table.proofs.universe.first_mixed.Goals as goal

pub returns-then-is_mixed-clause-some : goal.returns-then-is_mixed-clause-some
returns-then-is_mixed-clause-some c =
    mixed_here _ _ _ c.row-item.result
    (rw c.deref-row-items.ensures.value at
    (slice_get_read _ _ _ c.row-item.result refl c.loop-number-test.true c.row-item.is))
    (rw c.deref.ensures.value at (c.is_mixed.ensures.0 c.if-is_mixed.true))

pub loop-number-preserved : goal.loop-number-preserved
loop-number-preserved c =
    mixed_more _ _ _ c.row-item.result
    (rw c.deref-row-items.ensures.value at
    (slice_get_read _ _ _ c.row-item.result refl c.loop-number-test.true c.row-item.is))
    (rw c.deref.ensures.value at (not_when c.if-is_mixed.false c.is_mixed.ensures)) c.loop-number.invariant

pub returns-clause-none : goal.returns-clause-none
returns-clause-none c =
    mixed_none _ _ _ (rw c.deref-row-items.ensures.value at c.loop-number-test.false) c.loop-number.invariant
