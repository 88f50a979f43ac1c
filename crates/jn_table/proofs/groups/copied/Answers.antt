use Rattle.std.proofs.Common.{◌∙◌}
use Rattle.jn_index.specs.Index.{numbers_of}
use Rattle.jn_table.proofs.Grouped.{keys_more, keys_all}
use Rattle.jn_table.proofs.groups.copied.Goals as goal

pub loop-key-preserved : goal.loop-key-preserved
loop-key-preserved c =
    keys_more numbers_of c.args.keys.now c.loop-key.key-index c.key-item.result c.loop-key-test.true c.key-item.is
    c.loop-key.all.items _ c.in_ok-same.same (c.in_ok-same.ensures.items ∙ c.deref.ensures.value) c.in_ok-push.ensures.items c.loop-key.invariant

pub returns : goal.returns
returns c =
    keys_all numbers_of c.args.keys.now c.loop-key.key-index c.loop-key.all.items c.loop-key-test.false c.loop-key.invariant
