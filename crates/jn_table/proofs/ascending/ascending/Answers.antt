use Rattle.jn_table.proofs.EachOnce.{each_once}
use Rattle.jn_table.proofs.ascending.ascending.Goals as goal

pub returns : goal.returns
returns c =
    each_once c.args.numbers.items _ _ c.in_ok-sort.ensures.permutation c.in_ok-sort.ensures.sorted
    c.dedup.ensures.filtered
