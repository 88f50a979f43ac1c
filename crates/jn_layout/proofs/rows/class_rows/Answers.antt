use Rattle.std.proofs.Common.{length, ap, arith, List}
use Rattle.jn_layout.proofs.PartProof.{at_class}
use Rattle.jn_layout.proofs.RowEnds.{rows_none, rows_more, rows_right, known_long}
use Rattle.jn_layout.proofs.SlotLaw.{slots_agree}
use Rattle.jn_layout.proofs.rows.class_rows.Goals as goal

pub loop-k-init : goal.loop-k-init
loop-k-init c = record {
  below = omega arith;
  right = λ n asked. rows_none c.args.p.now n c.args.s.now c.new-rows.result c.new-rows.ensures;
}

pub loop-k-preserved : goal.loop-k-preserved
loop-k-preserved c = record {
  below = omega (arith, c.loop-k-test.true, ap (λ (xs : List _). length xs) c.known-k-end.ensures);
  right = λ n asked.
      rows_more c.args.p.now n c.args.s.now c.loop-k.k c.loop-k.rows c.push.new.self c.in_ok-row.row c.in_ok-push.ensures.ok
      (λ R a. c.in_ok-row.ensures c.args.g.now c.args.names.now c.args.p.now n asked R c.in_ok-made.ensures (at_class c.args.t.now n asked.naming.classes c.loop-k.k R a))
      (c.loop-k.invariant.right n asked);
}

pub returns-clause-rows : goal.returns-clause-rows
returns-clause-rows c = λ n asked.
    let l = known_long c.args.t.now n asked.naming.classes in
    rows_right c.args.p.now n c.args.s.now c.loop-k.k c.loop-k.rows
    (omega (arith, l, c.loop-k.invariant.below, c.loop-k-test.false, ap (λ (xs : List _). length xs) c.known-k-end.ensures)) (c.loop-k.invariant.right n asked)

pub returns-clause-slots : goal.returns-clause-slots
returns-clause-slots c = λ n i asked are.
    let l = known_long c.args.t.now n asked.naming.classes in
    let right =
    rows_right c.args.p.now n c.args.s.now c.loop-k.k c.loop-k.rows
    (omega (arith, l, c.loop-k.invariant.below, c.loop-k-test.false, ap (λ (xs : List _). length xs) c.known-k-end.ensures)) (c.loop-k.invariant.right n asked) in
    slots_agree c.args.p.now c.args.t.now c.args.m.now c.args.g.now c.args.s.now c.args.names.now n asked c.loop-k.rows right i are
