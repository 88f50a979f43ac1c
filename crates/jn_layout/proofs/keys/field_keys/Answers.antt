use Rattle.std.proofs.Common.{List, None, get_or}
use Rattle.jn_share.proofs.FieldEntries.{any_default}
use Rattle.jn_layout.specs.declared.declared.FieldAt.{FieldAt}
use Rattle.jn_layout.specs.Keys.{field_key}
use Rattle.jn_layout.proofs.KeyLaws.{keys_more, keys_all}
use Rattle.jn_layout.proofs.keys.field_keys.Goals as goal

pub loop-x-preserved : goal.loop-x-preserved
loop-x-preserved c =
    let xs : List FieldAt = c.args.fields.now in
    let k = c.loop-x.x-index in
    let none : FieldAt = record { class = None; name = record { 0 = 0 }; kind = 0 } in
    let x = get_or xs k none in
    keys_more field_key xs k x c.loop-x-test.true (any_default xs k none x c.loop-x-test.true) c.loop-x.all.items _ c.in_ok-key.key c.in_ok-key.ensures c.in_ok-push.ensures.items c.loop-x.invariant

pub returns : goal.returns
returns c = keys_all field_key c.args.fields.now c.loop-x.x-index c.loop-x.all.items c.loop-x-test.false c.loop-x.invariant
