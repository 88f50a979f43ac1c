use Rattle.std.proofs.Common.{subst, sym, ℕ, ◌+◌}
use Rattle.jn_reach.proofs.Searches.{not_when}
use Rattle.jn_names.proofs.MaskProof.{WordTo, word_set, word_kept}
use Rattle.jn_names.proofs.masks.word.Goals as goal
use Rattle.jn_names.proofs.masks.word.Goals.{then-is_mask, else-is_mask}

pub loop-b-preserved : goal.loop-b-preserved
loop-b-preserved c =
    let T : ℕ → Type 0 = WordTo c.args.names.now c.args.masks.now c.args.from (c.loop-b.b + 1) in
    elim c.if-is_mask.branch [
      | then-is_mask w ↦ subst T (sym w.word-is)
          (word_set c.args.names.now c.args.masks.now c.args.from c.loop-b.b c.loop-b.word c.loop-b-test.true
          c.loop-b.invariant (c.is_mask.ensures.0 w.if-is_mask.true))
      | else-is_mask w ↦ subst T (sym w.word-is)
          (word_kept c.args.names.now c.args.masks.now c.args.from c.loop-b.b c.loop-b.word c.loop-b.invariant
          (not_when w.if-is_mask.false c.is_mask.ensures))
    ]
