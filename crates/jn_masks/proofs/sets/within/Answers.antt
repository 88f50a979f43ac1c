use Rattle.std.proofs.Common.{sym, ◌∙◌}
use Rattle.std.proofs.lemmas.Bool.{false≢true}
use Rattle.jn_masks.proofs.Bits.{in_word}
use Rattle.jn_masks.proofs.sets.within.Goals as goal

pub returns-then-not-word_within : goal.returns-then-not-word_within
returns-then-not-word_within c = (
  λ t. absurd (false≢true t),
  λ h. absurd (false≢true (sym c.if-not-word_within.true
      ∙ c.word_within.ensures.1 (λ k l e. in_word c.args.a.0 c.args.b.0 c.loop-w.w k l h e))),
)
