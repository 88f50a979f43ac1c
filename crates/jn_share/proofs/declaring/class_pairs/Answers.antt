use Rattle.std.proofs.Common.{sym, subst, arith, ◌<◌, ◌+◌, ℕ}
use Rattle.std.specs.declared.vec.Vec.{Vec}
use Rattle.std.specs.declared.alloc.Global.{Global}
use Rattle.jn_share.proofs.FieldEntries.{PairsTo, pairs_more, pairs_skip, pairs_all}
use Rattle.jn_share.proofs.declaring.class_pairs.Goals as goal
use Rattle.jn_share.proofs.declaring.class_pairs.Goals.{then-class-count+in_ok-push, else-class-count}

pub loop-i-preserved : goal.loop-i-preserved
loop-i-preserved c =
    let x = c.index-types-i.result in
    let within : c.loop-i.i < c.args.count = omega (arith, c.loop-i-test.true, c.requires) in
    elim c.if-class-count.branch [
      | then-class-count+in_ok-push w ↦
          subst (λ (v : Vec (ℕ × ℕ) Global). PairsTo c.args.types.now c.args.count (c.loop-i.i + 1) v.items) (sym w.pairs-is)
          (pairs_more c.args.types.now c.args.count c.loop-i.i x c.loop-i.pairs.items w.push.new.self.items c.loop-i-test.true within c.index-types-i.is w.if-class-count.true
          w.in_ok-push.ensures.items c.loop-i.invariant)
      | else-class-count w ↦
          subst (λ (v : Vec (ℕ × ℕ) Global). PairsTo c.args.types.now c.args.count (c.loop-i.i + 1) v.items) (sym w.pairs-is)
          (pairs_skip c.args.types.now c.args.count c.loop-i.i x c.loop-i.pairs.items c.loop-i-test.true c.index-types-i.is w.if-class-count.false c.loop-i.invariant)
    ]

pub returns-clause-complete : goal.returns-clause-complete
returns-clause-complete c = pairs_all c.args.types.now c.args.count c.loop-i.i c.loop-i.pairs.items c.loop-i-test.false c.loop-i.invariant
