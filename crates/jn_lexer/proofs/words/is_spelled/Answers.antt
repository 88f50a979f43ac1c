use Rattle.std.proofs.Common.{sym, arith}
use Rattle.jn_lexer.proofs.Digits.{same_text}
use Rattle.jn_lexer.proofs.words.is_spelled.Goals as goal

pub returns : goal.returns
returns c = sym (same_text c.args.word.now c.args.text.now c.if-word-text.false (λ k h. c.loop-i.invariant k (omega arith)))
