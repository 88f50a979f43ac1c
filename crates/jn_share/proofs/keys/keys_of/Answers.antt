use Rattle.std.proofs.Common.{◌+◌, get_or, sym, subst, refl}
use Rattle.std.specs.declared.vec.Vec.{Vec}
use Rattle.std.specs.declared.alloc.Global.{Global}
use Rattle.jn_share.specs.declared.keys.FieldKey.{FieldKey}
use Rattle.jn_share.proofs.KeyLists.{KeysTo, keys_more, keys_skip, keys_all}
use Rattle.jn_share.proofs.keys.keys_of.Goals as goal
use Rattle.jn_share.proofs.keys.keys_of.Goals.{in-Some+in_ok-own_keys, in_default}

pub loop-m-preserved : goal.loop-m-preserved
loop-m-preserved c =
    let rows = c.args.rows.now in
    let among = c.args.among.now in
    let n = c.loop-m.m-index in
    let m = get_or among n 0 in
    elim c.match-at.branch [
      | in-Some+in_ok-own_keys w ↦
          subst (λ (v : Vec FieldKey Global). KeysTo rows among (n + 1) v.items) (sym w.keys-is)
          (keys_more rows among n m c.loop-m-test.true refl c.requires w.in-Some.row.now (sym w.in-Some.ensures) w.deref.result.now w.deref.ensures.value c.loop-m.keys.items
          w.own_keys.new.keys.items w.in_ok-own_keys.ensures c.loop-m.invariant)
      | in_default w ↦
          subst (λ (v : Vec FieldKey Global). KeysTo rows among (n + 1) v.items) (sym w.keys-is)
          (keys_skip rows among n m c.loop-m-test.true refl c.loop-m.keys.items w.in_default.ensures c.loop-m.invariant)
    ]

pub returns : goal.returns
returns c = keys_all c.args.rows.now c.args.among.now c.loop-m.m-index c.loop-m.keys.items c.loop-m-test.false c.loop-m.invariant
