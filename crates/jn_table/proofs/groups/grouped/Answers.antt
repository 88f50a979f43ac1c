use Rattle.jn_table.proofs.Grouped.{firsts_within, groups_are}
use Rattle.jn_table.proofs.groups.grouped.Goals as goal

pub returns : goal.returns
returns c =
    groups_are c.args.keys.now c.in_ok-firsts.firsts.items c.in_ok-firsts.ensures
    (record { index = c.in_ok-index.index; rows = c.in_ok-rows.rows })
    (rw c.in_ok-same.ensures at c.in_ok-index.ensures) (rw c.deref-2.ensures.value at c.in_ok-rows.ensures.exact)

pub class_members-requires : goal.class_members-requires
class_members-requires c =
    rw c.deref-2.ensures.value (firsts_within c.args.keys.now c.in_ok-firsts.firsts.items c.in_ok-firsts.ensures)
