use Rattle.std.proofs.Common.{◌∙◌, sym, subst}
use Rattle.jn_table.specs.OwnParts.{SaysMethods, SaysFields}
use Rattle.jn_names.specs.Ascending.{Ascend}
use Rattle.jn_names.proofs.MemberSays.{is_member_row}
use Rattle.jn_names.proofs.rows.row_of.Goals as goal

pub returns : goal.returns
returns c = λ p R i n.
    is_member_row p c.args.t.now R c.args.id _ c.row.result.now i n c.row.ensures
    (λ up. c.in_ok-sups.ensures.same (subst Ascend (sym c.deref.ensures.value) up) ∙ c.deref.ensures.value)
    c.deref-2.result.now c.deref-3.result.now
    (subst (SaysMethods c.args.t.now c.args.id) (sym c.deref-2.ensures.value) c.in_ok-own_methods.ensures) c.in_ok-methods.ensures
    (subst (SaysFields c.args.t.now c.args.id) (sym c.deref-3.ensures.value) c.in_ok-own_fields.ensures) c.in_ok-fields.ensures
