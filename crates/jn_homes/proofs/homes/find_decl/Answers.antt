use Rattle.std.proofs.Common.{rules}
use Rattle.std.proofs.Math.ListN.{drop_of_length-le}
use Rattle.jn_homes.proofs.Places.{at_index}
use Rattle.jn_homes.proofs.Housing.{searched_next, searched_all, other_number}
use Rattle.jn_homes.proofs.homes.find_decl.Goals as goal

pub loop-d-preserved : goal.loop-d-preserved
loop-d-preserved c =
    searched_next c.args.decls.now _ _ c.d-item.result c.args.name c.loop-d.invariant (at_index c.args.decls.now c.loop-d.d-index c.d-item.result c.loop-d-test.true c.d-item.is) (other_number _ _ c.if-d-name.false)

pub returns : goal.returns
returns c = searched_all c.args.decls.now _ c.args.name c.loop-d.invariant (drop_of_length-le c.args.decls.now {i = c.loop-d.d-index} (search rules))
