use Rattle.jn_meaning.proofs.ClassNumbers.{class_told}
use Rattle.jn_meaning.proofs.classes.is_class.Goals as goal

pub returns : goal.returns
returns c = λ p f.
    class_told p c.args.t.now f c.args.id c.row.result.now c.is_class_kind.result (c.is_known.ensures.0 c.if-not-is_known.false) c.args.t.now.paired c.row.ensures c.is_class_kind.ensures
