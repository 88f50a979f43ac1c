use Rattle.std.proofs.Common.{get_or, refl}
use Rattle.jn_base.specs.declared.tree.Named.{Named}
use Rattle.jn_share.proofs.Walk.{adds_none, adds_name, names_all}
use Rattle.jn_share.proofs.listed.add_names.Goals as goal

pub loop-name-init : goal.loop-name-init
loop-name-init c = adds_none c.args.out.now.items

pub loop-name-preserved : goal.loop-name-preserved
loop-name-preserved c =
    let none : Named = record { name = record { 0 = 0 }; at = record { line = 0; column = 0 } } in
    adds_name c.args.class.now c.args.list c.args.names.now c.loop-name.name-index (get_or c.args.names.now c.loop-name.name-index none) none c.in_ok-at.at c.args.out.now.items c.loop-name.out.items c.push.new.self.items
    c.loop-name-test.true refl c.in_ok-at.ensures c.loop-name.invariant c.in_ok-push.ensures.items

pub returns : goal.returns
returns c =
    names_all c.args.class.now c.args.list c.args.names.now c.loop-name.name-index c.args.out.now.items c.loop-name.out.items c.loop-name-test.false c.loop-name.invariant
