use Rattle.std.proofs.Common.{map}
use Rattle.jn_table.specs.Places.{path_key}
use Rattle.jn_table.proofs.Nears.{paths_among}
use Rattle.jn_table.proofs.near.among.Goals as goal

pub returns : goal.returns
returns c =
    paths_among c.args.others.now c.args.paths.now c.in_ok-rows.rows.items
    (c.in_ok-rows.ensures (map path_key c.args.others.now)
    (rw (c.deref.ensures.value, c.in_ok-keys.ensures) at c.in_ok-groups.ensures))
