use Rattle.std.proofs.Common.{◌≡◌}
use Rattle.jn_base.specs.declared.tree.Name.{Name}
use Rattle.jn_reach.proofs.Searches.{NoneBefore}
use Rattle.jn_share.proofs.firsts.place_of.Given as goal

abbrev pub invariant-loop-i : goal.invariant-loop-i
invariant-loop-i l = NoneBefore (λ (x : Name). x ≡ l.name) l.names l.i
