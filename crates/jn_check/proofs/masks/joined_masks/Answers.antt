use Rattle.std.proofs.Common.{arith}
use Rattle.jn_check.proofs.Masking.{both_words}
use Rattle.jn_check.proofs.masks.joined_masks.Goals as goal

pub returns : goal.returns
returns c =
    both_words c.args.m c.args.n c.joined_word.result c.joined_word-2.result c.joined_word-3.result c.joined_word-4.result c.joined_word.ensures c.joined_word-2.ensures c.joined_word-3.ensures
    c.joined_word-4.ensures c.joined_word.type_inv c.joined_word-2.type_inv c.joined_word-3.type_inv c.joined_word-4.type_inv (omega arith) (omega arith)
