use Rattle.jn_homes.proofs.Housing.{undeclared_at}
use Rattle.jn_homes.proofs.homes.decl_near.Goals as goal

pub returns-in-None : goal.returns-in-None
returns-in-None c =
    undeclared_at c.args.p.now _ c.args.path.now.names _ _ c.as_slice-in-len1-up.ensures c.as_slice.ensures
    c.in-len1-up.len_at_least c.in-None.ensures
