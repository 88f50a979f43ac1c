use Rattle.std.proofs.Common.{rules}
use Rattle.std.proofs.Math.ListN.{drop_of_length-le}
use Rattle.jn_homes.proofs.Housing.{members_hit, members_next, members_all}
use Rattle.jn_homes.proofs.homes.find_inner.Goals as goal

pub returns-in-Some : goal.returns-in-Some
returns-in-Some c = members_hit c.args.members.now c.loop-m.m-index c.m-item.result c.args.name c.in-Some.d.now c.loop-m.invariant c.loop-m-test.true c.m-item.is c.in-Some.ensures

pub loop-m-preserved : goal.loop-m-preserved
loop-m-preserved c = members_next c.args.members.now c.loop-m.m-index c.m-item.result c.args.name c.loop-m.invariant c.loop-m-test.true c.m-item.is c.in_default.ensures

pub returns : goal.returns
returns c = members_all c.args.members.now _ c.args.name c.loop-m.invariant (drop_of_length-le c.args.members.now {i = c.loop-m.m-index} (search rules))
