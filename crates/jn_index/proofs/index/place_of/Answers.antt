use Rattle.std.proofs.Common.{rules, length, refl, sym, ltb-true}
use Rattle.std.proofs.lemmas.List.Sorted.{IsPartitionPoint-from_clause}
use Rattle.std.proofs.lemmas.Option.{slice_get_read}
use Rattle.jn_reach.proofs.Searches.{not_when}
use Rattle.jn_index.specs.Index.{comes_before}
use Rattle.jn_index.proofs.Places.{parted, past_all, first_there, not_there}
use Rattle.jn_index.proofs.index.place_of.Goals as goal

pub returns-then-has_key-clause-some : goal.returns-then-has_key-clause-some
returns-then-has_key-clause-some c = λ keys are.
    let index = c.args.index.now in
    let key = c.args.key.now in
    let at = c.partition_point-at.result in
    first_there keys index key at are
    (IsPartitionPoint-from_clause (comes_before key) index at c.partition_point-at.ensures.partitioned (parted index key are.sorted) (λ a r g called. search rules))
    c.in-Some.x.now (slice_get_read index (length index) at c.in-Some.x.now refl (ltb-true at (length index) (sym c.in-Some.ensures.lookup.0)) c.in-Some.ensures.lookup.1) (c.has_key.ensures.0 c.if-has_key.true)

pub returns-in-None-clause-none : goal.returns-in-None-clause-none
returns-in-None-clause-none c = λ keys are.
    let index = c.args.index.now in
    let key = c.args.key.now in
    let at = c.partition_point-at.result in
    past_all keys index key at are
    (IsPartitionPoint-from_clause (comes_before key) index at c.partition_point-at.ensures.partitioned (parted index key are.sorted) (λ a r g called. search rules))
    c.in-None.ensures.lookup.3

pub returns-else-has_key-clause-none : goal.returns-else-has_key-clause-none
returns-else-has_key-clause-none c = λ keys are.
    let index = c.args.index.now in
    let key = c.args.key.now in
    let at = c.partition_point-at.result in
    not_there keys index key at are
    (IsPartitionPoint-from_clause (comes_before key) index at c.partition_point-at.ensures.partitioned (parted index key are.sorted) (λ a r g called. search rules))
    c.in-Some.x.now (slice_get_read index (length index) at c.in-Some.x.now refl (ltb-true at (length index) (sym c.in-Some.ensures.lookup.0)) c.in-Some.ensures.lookup.1) (not_when c.if-has_key.false c.has_key.ensures)
