use Rattle.jn_table.proofs.NextLevel.{next_exact, rows_in_range, next_shaped}
use Rattle.jn_table.proofs.level.next.Goals as goal

pub closure-requires : goal.closure-requires
closure-requires c = rw c.deref.ensures.value (rows_in_range _ _ _ _ c.in_ok-direct.ensures.rows)

pub returns-clause-shaped : goal.returns-clause-shaped
returns-clause-shaped c =
    next_shaped c.args.entries.now c.args.level.now c.args.children.now
    (record { paths = c.in_ok-paths.paths; direct = c.in_ok-direct.direct; sups = c.in_ok-sups.sups })
    c.in_ok-paths.ensures c.in_ok-direct.ensures.rows (rw c.deref.ensures.value at c.in_ok-sups.ensures.exact)

pub returns-clause-exact : goal.returns-clause-exact
returns-clause-exact c =
    next_exact c.args.entries.now c.args.level.now c.args.children.now
    (record { paths = c.in_ok-paths.paths; direct = c.in_ok-direct.direct; sups = c.in_ok-sups.sups })
    c.in_ok-paths.ensures c.in_ok-direct.ensures.rows (rw c.deref.ensures.value at c.in_ok-sups.ensures.exact)
