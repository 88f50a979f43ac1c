use Rattle.std.proofs.Common.{List, get_or, map, length, refl, sym, subst}
use Rattle.std.proofs.lemmas.Option.{slice_get_read}
use Rattle.jn_index.specs.Index.{IsIndex, FirstTold}
use Rattle.jn_index.proofs.Places.{key_at}
use Rattle.jn_share.proofs.FieldEntries.{any_default}
use Rattle.jn_agree.specs.declared.selectors.FieldSel.{FieldSel}
use Rattle.jn_layout.specs.Keys.{slot_key}
use Rattle.jn_layout.specs.Selecting.{IsSame}
use Rattle.jn_layout.proofs.SelectorLaws.{selects_none, selects_all}
use Rattle.jn_layout.proofs.KeyLaws.{same_to, same_from, first_more, again}
use Rattle.jn_layout.proofs.selecting.distinct.Goals as goal
use Rattle.jn_layout.proofs.selecting.distinct.Goals.{then-is_first+in_ok-push, else-is_first}

pub loop-k-init : goal.loop-k-init
loop-k-init c = selects_none IsSame c.new-all.result c.new-all.ensures

pub loop-k-preserved : goal.loop-k-preserved
loop-k-preserved c =
    let xs : List FieldSel = c.args.own.now in
    let k = c.loop-k.k in
    let none : FieldSel = record { name = record { 0 = 0 }; kind = 0 } in
    let x = get_or xs k none in
    let here = any_default xs k none x c.loop-k-test.true in
    let told = c.is_first.ensures (map slot_key xs) (subst (IsIndex (map slot_key xs)) (sym c.deref.ensures.value) c.in_ok-index.ensures)
    (key_at slot_key xs k x (slice_get_read xs (length xs) k x refl c.loop-k-test.true here)) in
    elim c.if-is_first.branch [
      | then-is_first+in_ok-push w ↦
          rw w.all-is
          (first_more IsSame slot_key slot_key same_to same_from xs k x c.loop-k-test.true here c.loop-k.all c.loop-k.invariant _ x w.in_ok-push.ensures.ok refl
          (subst (FirstTold (map slot_key xs) (slot_key x) k) w.if-is_first.true told))
      | else-is_first w ↦
          let t = subst (FirstTold (map slot_key xs) (slot_key x) k) w.if-is_first.false told in
          rw w.all-is
          (again IsSame slot_key slot_key same_to same_from xs k x c.loop-k-test.true here c.loop-k.all c.loop-k.invariant t.0 t.1 t.2)
    ]

pub returns : goal.returns
returns c = selects_all IsSame c.args.own.now c.loop-k.k c.loop-k.all c.loop-k-test.false c.loop-k.invariant
