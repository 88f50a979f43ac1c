use Rattle.jn_table.proofs.Ups.{not_under}
use Rattle.jn_table.proofs.route.Route.under.Goals as goal

pub returns-clause-none : goal.returns-clause-none
returns-clause-none c =
    not_under _ c.self.inside.names c.up.inside.names _ _ c.self.view_is c.up.view_is
    (rw (c.as_slice.ensures, c.as_slice-2.ensures) at c.one_more.ensures.none)
