use Rattle.std.proofs.Common.{rules, option_copied}
use Rattle.jn_header.specs.Constructors.{constructor_signature}
use Rattle.jn_header.proofs.Constructs.{last_is, at_last}
use Rattle.jn_header.proofs.constructors.passes_at.Goals as goal

pub returns : goal.returns
returns c = λ p S bo n.
    let l = last_is S c.args.name c.last_at.result (c.last_at.ensures S n) (c.is_just.ensures.0 (search rules)) in
    at_last p bo.declarations bo.members.filled.table.named c.args.name S l.0 l.1 (constructor_signature (option_copied c.args.own)) (option_copied c.least_head.result)
    (c.least_head.ensures p c.args.t.now S bo n) c.are_same.result c.are_same.ensures
