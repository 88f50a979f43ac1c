use Rattle.std.proofs.Common.{◌+◌, get_or, sym, subst, false}
use Rattle.std.specs.declared.vec.Vec.{Vec}
use Rattle.std.specs.declared.alloc.Global.{Global}
use Rattle.jn_share.specs.declared.field_first.FieldFirst.{FieldFirst}
use Rattle.jn_share.specs.declared.keys.FieldKey.{FieldKey}
use Rattle.jn_share.proofs.FieldEntries.{any_default}
use Rattle.jn_share.proofs.KeyLists.{OwnTo, own_more, own_skip, own_all}
use Rattle.jn_share.proofs.keys.own_keys.Goals as goal
use Rattle.jn_share.proofs.keys.own_keys.Goals.{then-x-m+in_ok-push, else-x-m}

pub loop-x-preserved : goal.loop-x-preserved
loop-x-preserved c =
    let row = c.args.row.now in
    let i = c.loop-x.x-index in
    let zero : FieldFirst = record { field = record { 0 = 0 }; first = 0; hangs = false } in
    let x = get_or row i zero in
    let here = any_default row i zero x c.loop-x-test.true in
    elim c.if-x-m.branch [
      | then-x-m+in_ok-push w ↦
          subst (λ (v : Vec FieldKey Global). OwnTo row c.args.m (i + 1) c.args.keys.now.items v.items) (sym w.keys-is)
          (own_more row c.args.m i x c.args.keys.now.items c.loop-x.keys.items w.push.new.self.items c.loop-x-test.true here w.if-x-m.true w.in_ok-push.ensures.items c.loop-x.invariant)
      | else-x-m w ↦
          subst (λ (v : Vec FieldKey Global). OwnTo row c.args.m (i + 1) c.args.keys.now.items v.items) (sym w.keys-is)
          (own_skip row c.args.m i x c.args.keys.now.items c.loop-x.keys.items c.loop-x-test.true here w.if-x-m.false c.loop-x.invariant)
    ]

pub returns : goal.returns
returns c = own_all c.args.row.now c.args.m c.loop-x.x-index c.args.keys.now.items c.loop-x.keys.items c.loop-x-test.false c.loop-x.invariant
