use Rattle.jn_rules.specs.Questions.{KeptMask}
use Rattle.jn_check.proofs.Masking.{kept_all}
use Rattle.jn_check.proofs.DropLaws.{by_words}
use Rattle.jn_check.proofs.dropping.without.Goals as goal

pub returns : goal.returns
returns c =
    by_words c.loop-i.kept c.word.result c.word-2.result c.word-3.result c.word-4.result c.word.ensures c.word-2.ensures c.word-3.ensures c.word-4.ensures c.word.type_inv c.word-2.type_inv
    c.word-3.type_inv c.word-4.type_inv (KeptMask c.args.names.now c.args.m c.args.field)
    (kept_all c.args.names.now c.args.m c.args.field c.loop-i.i c.loop-i.kept c.loop-i-test.false c.loop-i.invariant)
