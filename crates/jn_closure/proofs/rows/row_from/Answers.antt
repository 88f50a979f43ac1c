use Rattle.jn_closure.proofs.Searching.{Lists-sorted}
use Rattle.jn_closure.proofs.rows.row_from.Goals as goal

pub returns-clause-exact : goal.returns-clause-exact
returns-clause-exact c =
    Lists-sorted _ _ _ _ c.in_ok-nodes.ensures.marks c.in_ok-nodes.ensures.exact
    c.in_ok-sort.ensures.permutation c.in_ok-sort.ensures.sorted
