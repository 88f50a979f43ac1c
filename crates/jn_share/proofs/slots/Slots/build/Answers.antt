use Rattle.std.proofs.Common.{List, Vec, Global, Err, Ok, subst, sym, refl, arith, length}
use Rattle.jn_base.specs.declared.refusal.Limit.TheVariants as limit
use Rattle.jn_share.specs.declared.field_first.FieldFirst.{FieldFirst}
use Rattle.jn_share.specs.declared.keys.FieldKey.{FieldKey}
use Rattle.jn_share.specs.Keys.{KeysFor, NoneOverTo, SlotRowsTo}
use Rattle.jn_share.specs.Limits.{entries, over_limit, start_of_file}
use Rattle.jn_share.proofs.Built.{entries_over, gives_over, limits_refused, built, refused_at}
use Rattle.jn_share.proofs.Covers.{path_there}
use Rattle.jn_share.proofs.slots.Slots.build.Goals as goal

pub returns-then-entries-gt1048576-clause-gives : goal.returns-then-entries-gt1048576-clause-gives
returns-then-entries-gt1048576-clause-gives c = λ p asked.
    gives_over p c.args.t.now.known.items (over_limit limit.Entries start_of_file) c.over.result
    (entries (entries_over p c.args.t.now c.entries.result (c.entries.ensures p asked.filled asked.groups) (omega (arith, c.if-entries-gt1048576.true))) refl) c.over.ensures

pub returns-then-entries-gt1048576-clause-refused : goal.returns-then-entries-gt1048576-clause-refused
returns-then-entries-gt1048576-clause-refused c = λ p asked.
    limits_refused p asked.declarations.once asked.filled.table.named.distinct asked.filled.table.named.paths c.args.t.now.known.items (Err c.over.result)
    (returns-then-entries-gt1048576-clause-gives c p asked)

pub returns-in-Some-clause-gives : goal.returns-in-Some-clause-gives
returns-in-Some-clause-gives c = λ p asked.
    let t = c.args.t.now in
    let k = c.in-Some.k in
    let V = path_there p t asked.filled k c.in-Some.ensures.some in
    gives_over p t.known.items (over_limit limit.Slots c.home.result) c.over-in-Some.result
    (refused_at p t c.args.g.now c.args.types.now asked c.in_ok-lists.lists c.in_ok-lists.ensures c.in_ok-made.made.rows.items c.in_ok-made.ensures.long
    (c.in_ok-made.ensures.firsts p asked) c.deref.result.now (subst (λ (ks : List (Vec FieldKey Global)). KeysFor c.in_ok-made.made.rows.items c.in_ok-lists.lists.numbers.items ks)
    (sym c.deref.ensures.value) c.in_ok-made.ensures.keys)
    k V.0 V.1 c.in-Some.ensures.over.0 c.in-Some.ensures.over.1 c.home.result c.home.ensures c.entries.result (c.entries.ensures p asked.filled asked.groups)
    (omega (arith, c.if-entries-gt1048576.false)))
    c.over-in-Some.ensures

pub returns-in-Some-clause-refused : goal.returns-in-Some-clause-refused
returns-in-Some-clause-refused c = λ p asked.
    limits_refused p asked.declarations.once asked.filled.table.named.distinct asked.filled.table.named.paths c.args.t.now.known.items (Err c.over-in-Some.result)
    (returns-in-Some-clause-gives c p asked)

pub returns-clause-gives : goal.returns-clause-gives
returns-clause-gives c = λ p asked.
    let t = c.args.t.now in
    let starts = c.in_ok-lists.lists.starts.items in
    let keys = c.in_ok-made.made.keys.items in
    let all = length t.known.items in
    let rows = c.in_ok-rows-in-None.rows.items in
    let out : SlotRowsTo t keys starts c.in_ok-made.made.rows.items all rows =
    subst (λ (xs : List (Vec FieldFirst Global)). SlotRowsTo t keys starts xs all rows) c.deref-in-None-2.ensures.value
    (subst (λ (ks : List (Vec FieldKey Global)). SlotRowsTo t ks starts c.deref-in-None-2.result.now all rows) c.deref-in-None.ensures.value c.in_ok-rows-in-None.ensures) in
    let none : NoneOverTo t keys starts all = subst (λ (ks : List (Vec FieldKey Global)). NoneOverTo t ks starts all) c.deref.ensures.value c.in-None.ensures.none in
    built p c.args.t.now c.args.g.now c.args.types.now asked c.in_ok-lists.lists c.in_ok-lists.ensures c.in_ok-made.made.rows.items c.in_ok-made.ensures.long
    (c.in_ok-made.ensures.firsts p asked) c.in_ok-made.made.keys.items c.in_ok-made.ensures.keys
    (record { rows = c.in_ok-rows-in-None.rows }) out none c.entries.result (c.entries.ensures p asked.filled asked.groups)
    (omega (arith, c.if-entries-gt1048576.false))

pub returns-clause-refused : goal.returns-clause-refused
returns-clause-refused c = λ p asked.
    limits_refused p asked.declarations.once asked.filled.table.named.distinct asked.filled.table.named.paths c.args.t.now.known.items
    (Ok (record { rows = c.in_ok-rows-in-None.rows })) (returns-clause-gives c p asked)
