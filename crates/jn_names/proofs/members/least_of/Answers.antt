use Rattle.std.proofs.Common.{subst, List}
use Rattle.jn_table.specs.declared.class.ClassId.{ClassId}
use Rattle.jn_names.specs.MemberRows.{LeastRow}
use Rattle.jn_names.proofs.Exchanged.{least_exchanged}
use Rattle.jn_names.proofs.members.least_of.Goals as goal

pub returns : goal.returns
returns c =
    let row = c.args.row.now in
    least_exchanged c.args.rows.now c.args.ids.now row.sups.items c.requires row.ascending c.least_among-2.result
    (subst (λ (xs : List ClassId). LeastRow c.args.rows.now xs c.args.ids.now c.least_among-2.result)
    c.deref-2.ensures.value c.least_among-2.ensures)
