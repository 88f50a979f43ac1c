use Rattle.std.proofs.Common.{subst, sym, List, option_copied}
use Rattle.jn_header.specs.declared.bodies.HeadRow.{HeadRow}
use Rattle.jn_header.specs.Bodies.{AreHeadRows}
use Rattle.jn_header.proofs.Finding.{least_one}
use Rattle.jn_header.proofs.least.least_head.Goals as goal

pub returns-in-One : goal.returns-in-One
returns-in-One c = λ p t R bo n.
    let l = c.in-One.ensures p t R bo.members n in
    least_one p R c.args.name l.0 l.2 (option_copied c.head_at.result)
    (c.head_at.ensures p t.known.items l.0 (subst (λ (xs : List HeadRow). AreHeadRows p t.known.items xs) (sym c.deref.ensures.value) bo.rows) l.1)
