use Rattle.std.proofs.Common.{refl, rules}
use Rattle.std.proofs.Math.ListN.{drop_of_length-le}
use Rattle.jn_base.specs.Paths.{methods}
use Rattle.jn_expr.specs.Found.{method_name}
use Rattle.jn_expr.proofs.Naming.{searched_none, searched_hit, searched_next, searched_all, methods_split}
use Rattle.jn_expr.proofs.lookup.method_in.Goals as goal

pub loop-m-init : goal.loop-m-init
loop-m-init c = searched_none methods method_name c.args.members.now c.args.name

pub returns-in-Some : goal.returns-in-Some
returns-in-Some c =
    searched_hit methods method_name methods_split c.args.members.now c.loop-m.m-index c.m-item.result c.args.name c.in-Some.body.now c.loop-m.invariant c.loop-m-test.true c.m-item.is
    c.in-Some.ensures

pub loop-m-preserved : goal.loop-m-preserved
loop-m-preserved c =
    searched_next methods method_name methods_split c.args.members.now c.loop-m.m-index c.m-item.result c.args.name c.loop-m.invariant c.loop-m-test.true c.m-item.is c.in_default.ensures

pub returns : goal.returns
returns c =
    searched_all methods method_name refl c.args.members.now _ c.args.name c.loop-m.invariant (drop_of_length-le c.args.members.now {i = c.loop-m.m-index} (search rules))
