use Rattle.std.proofs.Common.{subst, List}
use Rattle.jn_table.specs.declared.class.ClassId.{ClassId}
use Rattle.jn_names.specs.MemberRows.{FieldRow}
use Rattle.jn_names.proofs.Exchanged.{field_exchanged}
use Rattle.jn_names.proofs.members.field_of.Goals as goal

pub returns : goal.returns
returns c =
    let row = c.args.row.now in
    field_exchanged c.args.ids.now row.sups.items c.requires row.ascending c.field_among-2.result
    (subst (λ (xs : List ClassId). FieldRow xs c.args.ids.now c.field_among-2.result) c.deref-2.ensures.value
    c.field_among-2.ensures)
