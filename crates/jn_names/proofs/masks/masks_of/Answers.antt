use Rattle.jn_names.proofs.MaskProof.{four_words}
use Rattle.jn_names.proofs.masks.masks_of.Goals as goal

pub returns : goal.returns
returns c =
    four_words c.args.names.now c.args.masks.now c.word.result c.word-2.result c.word-3.result c.word-4.result
    c.word.ensures c.word-2.ensures c.word-3.ensures c.word-4.ensures c.word.type_inv c.word-2.type_inv
    c.word-3.type_inv c.word-4.type_inv
