use Rattle.std.proofs.Common.{ℕ}
use Rattle.jn_reach.proofs.Searches.{NoneBefore}
use Rattle.jn_table.specs.declared.class.ClassId.{ClassId}
use Rattle.jn_share.specs.Groups.{HasClass}
use Rattle.jn_share.proofs.groups.first_in.Given as goal

abbrev pub invariant-loop-k : goal.invariant-loop-k
invariant-loop-k l = NoneBefore (λ (k : ℕ). (w : ClassId) × HasClass l.rows k l.family w) l.numbers l.k-index
