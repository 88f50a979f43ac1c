use Rattle.std.proofs.Common.{◌≡◌, reverse, take}
use Rattle.std.specs.Option.{option_copied}
use Rattle.jn_base.specs.Resolve.{newest}
use Rattle.jn_expr.proofs.values.newest.Given as goal

abbrev pub invariant-loop-v : goal.invariant-loop-v
invariant-loop-v l = option_copied l.found ≡ newest (reverse (take l.v-index l.vars)) l.x
