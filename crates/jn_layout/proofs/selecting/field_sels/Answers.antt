use Rattle.std.proofs.Common.{List, subst}
use Rattle.jn_agree.specs.declared.selectors.FieldSel.{FieldSel}
use Rattle.jn_layout.specs.Selecting.{Selects, IsSame}
use Rattle.jn_layout.proofs.KeyLaws.{own_selects}
use Rattle.jn_layout.proofs.selecting.field_sels.Goals as goal

pub returns : goal.returns
returns c =
    own_selects c.args.s.now c.args.fields.now c.in_ok-own.own.items c.in_ok-all.all c.in_ok-own.ensures
    (subst (λ (xs : List FieldSel). Selects IsSame xs c.in_ok-all.all) c.deref.ensures.value c.in_ok-all.ensures)
