use Rattle.std.proofs.Common.{map}
use Rattle.jn_table.specs.Level.{child_key}
use Rattle.jn_table.proofs.LevelRows.{by_keys}
use Rattle.jn_table.proofs.level.supers_of.Goals as goal

pub returns : goal.returns
returns c = λ children are.
    by_keys c.args.written.now c.args.direct.now children c.args.heir.now _ _ _ _ c.new-all.ensures.items
    (c.in_ok-add_written.ensures (map child_key children) are)
    (c.in_ok-add_inherited.ensures (map child_key children) are) c.in_ok-row.ensures
