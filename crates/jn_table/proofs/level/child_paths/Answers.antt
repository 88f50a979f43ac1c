use Rattle.std.proofs.Common.{refl}
use Rattle.std.proofs.lemmas.Option.{slice_get_read}
use Rattle.jn_reach.proofs.Eachs.{Each-more, Each-none}
use Rattle.jn_table.specs.Level.{ChildPath}
use Rattle.jn_table.proofs.Places.{same_item}
use Rattle.jn_table.proofs.level.child_paths.Goals as goal

pub loop-child-init : goal.loop-child-init
loop-child-init c = Each-none (ChildPath c.args.level.now.paths.items) _ c.new-paths.ensures.items

pub loop-child-preserved : goal.loop-child-preserved
loop-child-preserved c =
    rw c.in_ok-push.ensures.items
    (Each-more (ChildPath c.args.level.now.paths.items) _ _ _ _ _ c.loop-child-test.true
    (same_item _ _ _ c.loop-child-test.true) c.loop-child.invariant
    (record {
      up = c.index.result.now;
      up_at = slice_get_read _ _ _ c.index.result.now refl (c.requires _ _ c.loop-child-test.true) c.index.ensures;
      is = c.in_ok-path.ensures;
    }))
