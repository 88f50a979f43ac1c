use Rattle.std.proofs.Common.{ℕ, List, map, length, refl, sym, subst}
use Rattle.std.proofs.lemmas.Option.{slice_get_read}
use Rattle.jn_index.specs.Index.{IsIndex, FirstTold}
use Rattle.jn_index.proofs.Places.{key_at}
use Rattle.jn_layout.specs.Keys.{shape_key, sel_key}
use Rattle.jn_layout.specs.Lookups.{SelectsBody}
use Rattle.jn_layout.proofs.SelectorLaws.{selects_none, selects_all}
use Rattle.jn_layout.proofs.KeyLaws.{shape_to, shape_from, first_more, again}
use Rattle.jn_layout.proofs.selecting.method_sels.Goals as goal
use Rattle.jn_layout.proofs.selecting.method_sels.Goals.{then-branch+in_ok-sel+in_ok-push, else-branch}

pub loop-k-init : goal.loop-k-init
loop-k-init c = selects_none SelectsBody c.new-all.result c.new-all.ensures

pub loop-k-preserved : goal.loop-k-preserved
loop-k-preserved c =
    let xs = c.args.bodies.now in
    let k = c.loop-k.k in
    let x = c.index-bodies-k.result in
    let index = subst (λ (keys : List (List ℕ)). IsIndex keys c.in_ok-index.index.items) c.in_ok-keys.ensures c.in_ok-index.ensures in
    let told = c.in_ok-is_new.ensures (map shape_key xs) (subst (IsIndex (map shape_key xs)) (sym c.deref.ensures.value) index)
    (key_at shape_key xs k x (slice_get_read xs (length xs) k x refl c.loop-k-test.true c.index-bodies-k.is)) in
    elim c.if-branch.branch [
      | then-branch+in_ok-sel+in_ok-push w ↦
          rw w.all-is
          (first_more SelectsBody shape_key sel_key shape_to shape_from xs k x c.loop-k-test.true c.index-bodies-k.is c.loop-k.all c.loop-k.invariant _ w.in_ok-sel.sel
          w.in_ok-push.ensures.ok w.in_ok-sel.ensures (subst (FirstTold (map shape_key xs) (shape_key x) k) w.if-branch.true told))
      | else-branch w ↦
          let t = subst (FirstTold (map shape_key xs) (shape_key x) k) w.if-branch.false told in
          rw w.all-is
          (again SelectsBody shape_key sel_key shape_to shape_from xs k x c.loop-k-test.true c.index-bodies-k.is c.loop-k.all c.loop-k.invariant t.0 t.1 t.2)
    ]

pub returns : goal.returns
returns c = selects_all SelectsBody c.args.bodies.now c.loop-k.k c.loop-k.all c.loop-k-test.false c.loop-k.invariant
