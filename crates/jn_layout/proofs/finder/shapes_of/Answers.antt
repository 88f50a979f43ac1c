use Rattle.std.proofs.Common.{◌∙◌, ◌∷◌, [], length-append, ap, length, arith}
use Rattle.jn_layout.proofs.FindLaws.{shape_told, shapes_more}
use Rattle.jn_layout.proofs.finder.shapes_of.Goals as goal

pub loop-x-init : goal.loop-x-init
loop-x-init c = record { long = ap length c.new-all.ensures.items; told = λ names are. λ k x l at. absurd (omega (arith, l)) }

pub loop-x-preserved : goal.loop-x-preserved
loop-x-preserved c = record {
  long = omega (arith, ap length c.in_ok-push.ensures.items, length-append c.loop-x.all.items (c.place_of.result ∷ []), c.loop-x.invariant.long);
  told = λ names are.
      shapes_more names c.args.bodies.now c.loop-x.x-index c.x-item.result c.loop-x-test.true c.x-item.is c.loop-x.all.items _ c.place_of.result c.in_ok-push.ensures.items
      c.loop-x.invariant.long
      (shape_told names c.x-item.result c.args.index.now c.deref.result.now (c.deref.ensures.value ∙ c.in_ok-key.ensures) are c.place_of.result c.place_of.ensures.some c.place_of.ensures.none)
      (c.loop-x.invariant.told names are);
}

pub returns : goal.returns
returns c = λ names are. λ k x l at. c.loop-x.invariant.told names are k x (omega (arith, l, c.loop-x-test.false)) at
