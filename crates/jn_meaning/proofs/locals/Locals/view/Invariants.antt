use Rattle.std.proofs.Common.{◌≡◌, drop}
use Rattle.jn_meaning.specs.Newest.{view_among}
use Rattle.jn_meaning.proofs.locals.Locals.view.Given as goal

abbrev pub invariant-loop-i : goal.invariant-loop-i
invariant-loop-i l = view_among (drop l.i l.self.vars.list) (drop l.i l.self.values.items) l.path ≡ view_among l.self.vars.list l.self.values.items l.path
