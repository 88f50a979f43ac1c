use Rattle.jn_table.specs.Places.{path_key}
use Rattle.jn_table.proofs.Grouped.{keys_more, keys_all}
use Rattle.jn_table.proofs.groups.path_keys.Goals as goal

pub loop-path-preserved : goal.loop-path-preserved
loop-path-preserved c =
    keys_more path_key c.args.paths.now c.loop-path.path-index c.path-item.result c.loop-path-test.true c.path-item.is
    c.loop-path.keys.items _ c.in_ok-key.key c.in_ok-key.ensures c.in_ok-push.ensures.items c.loop-path.invariant

pub returns : goal.returns
returns c =
    keys_all path_key c.args.paths.now c.loop-path.path-index c.loop-path.keys.items c.loop-path-test.false
    c.loop-path.invariant
