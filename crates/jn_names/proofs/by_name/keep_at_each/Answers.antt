use Rattle.std.proofs.Common.{nat_eq}
use Rattle.indexmap.specs.IndexMap.{get}
use Rattle.jn_names.proofs.Keeping.{adds_none, adds_more, adds_all}
use Rattle.jn_names.proofs.by_name.keep_at_each.Goals as goal

pub loop-name-init : goal.loop-name-init
loop-name-init c = adds_none c.args.names.now c.args.id (get nat_eq c.args.lists.now)

pub loop-name-preserved : goal.loop-name-preserved
loop-name-preserved c =
    adds_more c.args.names.now c.loop-name.name-index 0 c.args.id (get nat_eq c.args.lists.now)
    (get nat_eq c.loop-name.lists) (get nat_eq c.keep.new.lists) c.loop-name-test.true
    c.loop-name.invariant c.in_ok-keep.ensures.here c.in_ok-keep.ensures.others

pub returns : goal.returns
returns c =
    adds_all c.args.names.now c.loop-name.name-index c.args.id (get nat_eq c.args.lists.now)
    (get nat_eq c.loop-name.lists) c.loop-name-test.false c.loop-name.invariant
