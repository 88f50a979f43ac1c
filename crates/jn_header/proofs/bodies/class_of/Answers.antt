use Rattle.std.proofs.lemmas.Result.{IfOk-weaker}
use Rattle.jn_header.proofs.BodyRows.{class_is}
use Rattle.jn_header.proofs.bodies.class_of.Goals as goal

pub returns : goal.returns
returns c =
    IfOk-weaker c.of.result _ _ (λ class e. class_is c.args.t.now c.args.id c.row.result.now class c.as_slice.result.now c.row.ensures c.as_slice.ensures e) c.of.ensures
