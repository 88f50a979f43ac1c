use Rattle.jn_table.proofs.Mixed.{universe_fits}
use Rattle.jn_table.proofs.universe.universe_of.Goals as goal

pub returns-clause-fits : goal.returns-clause-fits
returns-clause-fits c =
    universe_fits c.args.entries.now
    (record { nodes = c.args.nodes; sups = c.in_ok-sups.sups; own = c.in_ok-own.own }) c.requires
    (rw c.deref.ensures.value at c.in_ok-sups.ensures.exact) (rw c.deref.ensures.value at c.in_ok-sups.ensures.within)
    (rw c.deref-2.ensures.value at c.in_ok-own.ensures)
