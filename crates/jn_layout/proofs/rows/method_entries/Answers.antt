use Rattle.std.proofs.Common.{refl}
use Rattle.jn_reach.proofs.Eachs.{Each-none}
use Rattle.jn_code.specs.declared.image.MethodEntry.{MethodEntry}
use Rattle.jn_layout.specs.RowLists.{IsEntryOf}
use Rattle.jn_layout.proofs.RowProof.{entry_next}
use Rattle.jn_layout.proofs.rows.method_entries.Goals as goal

pub loop-x-init : goal.loop-x-init
loop-x-init c = Each-none (IsEntryOf (λ (e : MethodEntry). e.selector) (λ (e : MethodEntry). e.code)) c.new-all.result c.new-all.ensures

pub loop-x-preserved : goal.loop-x-preserved
loop-x-preserved c =
    let xs = c.args.pairs.now in
    let i = c.loop-x.x-index in
    entry_next (λ (e : MethodEntry). e.selector) (λ (e : MethodEntry). e.code) xs c.loop-x.all c.push.new.self i _ c.loop-x-test.true c.in_ok-push.ensures.ok
    (record { key_is = refl; value_is = refl }) c.loop-x.invariant
