use Rattle.jn_table.proofs.RootLevel.{root_level, root_shaped}
use Rattle.jn_table.proofs.level.root.Goals as goal

pub returns-clause-exact : goal.returns-clause-exact
returns-clause-exact c p =
    root_level p (record {
      paths = c.push.new.self;
      direct = c.push-2.new.self;
      sups =
          c.push-4.new.self;
    }) c.new.result c.push-3.new.self
    c.new.ensures.items
    (rw c.new-own.ensures.items at c.in_ok-push-3.ensures.items)
    (rw (c.new-paths.ensures.items, c.root.ensures) at c.in_ok-push.ensures.items)
    (rw c.new-direct.ensures.items at c.in_ok-push-2.ensures.items)
    (rw c.new-sups.ensures.items at c.in_ok-push-4.ensures.items)

pub returns-clause-shaped : goal.returns-clause-shaped
returns-clause-shaped c =
    root_shaped (record {
      paths = c.push.new.self;
      direct = c.push-2.new.self;
      sups =
          c.push-4.new.self;
    }) c.new.result c.push-3.new.self
    c.new.ensures.items
    (rw c.new-own.ensures.items at c.in_ok-push-3.ensures.items)
    (rw (c.new-paths.ensures.items, c.root.ensures) at c.in_ok-push.ensures.items)
    (rw c.new-direct.ensures.items at c.in_ok-push-2.ensures.items)
    (rw c.new-sups.ensures.items at c.in_ok-push-4.ensures.items)
