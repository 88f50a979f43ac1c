use Rattle.std.proofs.Common.{◌≡◌}
use Rattle.jn_reach.proofs.Searches.{NoneBefore}
use Rattle.jn_base.specs.declared.tree.Named.{Named}
use Rattle.jn_names.proofs.masks.is_named.Given as goal

abbrev pub invariant-loop-m : goal.invariant-loop-m
invariant-loop-m l = NoneBefore (λ (m : Named). m.name ≡ l.name) l.masks l.m-index
