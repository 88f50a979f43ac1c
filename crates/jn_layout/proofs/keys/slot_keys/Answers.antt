use Rattle.std.proofs.Common.{List, get_or}
use Rattle.jn_share.proofs.FieldEntries.{any_default}
use Rattle.jn_agree.specs.declared.selectors.FieldSel.{FieldSel}
use Rattle.jn_layout.specs.Keys.{slot_key}
use Rattle.jn_layout.proofs.KeyLaws.{keys_more, keys_all}
use Rattle.jn_layout.proofs.keys.slot_keys.Goals as goal

pub loop-sel-preserved : goal.loop-sel-preserved
loop-sel-preserved c =
    let xs : List FieldSel = c.args.names.now in
    let k = c.loop-sel.sel-index in
    let none : FieldSel = record { name = record { 0 = 0 }; kind = 0 } in
    let x = get_or xs k none in
    keys_more slot_key xs k x c.loop-sel-test.true (any_default xs k none x c.loop-sel-test.true) c.loop-sel.all.items _ c.in_ok-key.key c.in_ok-key.ensures c.in_ok-push.ensures.items
    c.loop-sel.invariant

pub returns : goal.returns
returns c = keys_all slot_key c.args.names.now c.loop-sel.sel-index c.loop-sel.all.items c.loop-sel-test.false c.loop-sel.invariant
