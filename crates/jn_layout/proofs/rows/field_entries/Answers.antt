use Rattle.std.proofs.Common.{get_or, refl}
use Rattle.std.proofs.lemmas.List.Elements.{Contains-get_or}
use Rattle.jn_reach.proofs.Eachs.{Each-none}
use Rattle.jn_code.specs.declared.image.FieldEntry.{FieldEntry}
use Rattle.jn_layout.specs.RowLists.{IsEntryOf}
use Rattle.jn_layout.proofs.RowProof.{zero_pair, entry_next}
use Rattle.jn_layout.proofs.rows.field_entries.Goals as goal

pub loop-x-init : goal.loop-x-init
loop-x-init c = λ fit. Each-none (IsEntryOf (λ (e : FieldEntry). e.selector) (λ (e : FieldEntry). e.slot)) c.new-all.result c.new-all.ensures

pub loop-x-preserved : goal.loop-x-preserved
loop-x-preserved c = λ fit.
    let xs = c.args.pairs.now in
    let i = c.loop-x.x-index in
    let f = fit (get_or xs i zero_pair) (Contains-get_or xs i zero_pair c.loop-x-test.true) in
    entry_next (λ (e : FieldEntry). e.selector) (λ (e : FieldEntry). e.slot) xs c.loop-x.all c.push.new.self i _ c.loop-x-test.true c.in_ok-push.ensures.ok
    (record { key_is = refl; value_is = c.one_byte-slot.ensures f.1 }) (c.loop-x.invariant fit)
