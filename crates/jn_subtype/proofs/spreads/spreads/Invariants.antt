use Rattle.std.proofs.Common.{[], take, drop, length}
use Rattle.jn_base.specs.Scopes.{bound}
use Rattle.jn_intern.specs.Pools.{scope_in}
use Rattle.jn_subtype.specs.Turns.{Adds}
use Rattle.jn_subtype.proofs.Addings.{FromOne}
use Rattle.jn_subtype.proofs.SpreadForms.{HasOuter}
use Rattle.jn_subtype.proofs.spreads.spreads.Given as goal

abbrev pub invariant-loop-above : goal.invariant-loop-above
invariant-loop-above l =
    let outer = drop (length l.z.names) (bound (scope_in l.pool l.scope) l.z) in
    Adds (FromOne (HasOuter l.z outer) (take l.above-index l.above-items)) [] l.all.items
