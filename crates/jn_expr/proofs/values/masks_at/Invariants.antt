use Rattle.std.proofs.Common.{◌≡◌, take}
use Rattle.jn_subtype.specs.Binds.{binds_in}
use Rattle.jn_rules.specs.Exprs.{masks_at}
use Rattle.jn_expr.proofs.values.masks_at.Given as goal

abbrev pub invariant-loop-bind : goal.invariant-loop-bind
invariant-loop-bind l = l.masks ≡ masks_at (binds_in l.pool (take l.bind-index l.binds)) l.path
