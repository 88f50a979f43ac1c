use Rattle.std.proofs.Common.{subst, sym, List}
use Rattle.jn_header.specs.declared.bodies.HeadRow.{HeadRow}
use Rattle.jn_header.specs.Bodies.{AreHeadRows}
use Rattle.jn_header.proofs.MethodNames.{none_other, other_told}
use Rattle.jn_header.proofs.methods.is_other.Goals as goal

pub returns-in-None : goal.returns-in-None
returns-in-None c = λ b p t S bo n is. none_other p b c.args.name S (c.in-None.ensures p t.known.items S (subst (λ (xs : List HeadRow). AreHeadRows p t.known.items xs) (sym c.deref.ensures.value) bo.rows) n)

pub returns-in-Some : goal.returns-in-Some
returns-in-Some c = λ b p t S bo n is.
    other_told p bo.declarations bo.members.filled.table.named b c.args.name S c.args.own.now c.in-Some.head.now is
    (c.in-Some.ensures p t.known.items S (subst (λ (xs : List HeadRow). AreHeadRows p t.known.items xs) (sym c.deref.ensures.value) bo.rows) n) c.is_same.result c.is_same.ensures
