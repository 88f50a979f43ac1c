use Rattle.std.proofs.Common.{map}
use Rattle.jn_table.specs.Groups.{namespace_key}
use Rattle.jn_table.proofs.Grouped.{insides_are}
use Rattle.jn_table.proofs.gather.insides.Goals as goal

pub returns : goal.returns
returns c =
    insides_are c.args.entries.now c.args.paths.now c.in_ok-rows.rows.items
    (c.in_ok-rows.ensures (map namespace_key c.args.entries.now)
    (rw (c.deref.ensures.value, c.in_ok-keys.ensures) at c.in_ok-groups.ensures))
