use Rattle.std.proofs.Common.{map}
use Rattle.jn_table.specs.Groups.{entry_key}
use Rattle.jn_table.proofs.Grouped.{at_paths_are}
use Rattle.jn_table.proofs.own.at_paths.Goals as goal

pub returns : goal.returns
returns c =
    at_paths_are c.args.entries.now c.args.paths.now c.in_ok-rows.rows.items
    (c.in_ok-rows.ensures (map entry_key c.args.entries.now)
    (rw (c.deref.ensures.value, c.in_ok-keys.ensures) at c.in_ok-groups.ensures))
