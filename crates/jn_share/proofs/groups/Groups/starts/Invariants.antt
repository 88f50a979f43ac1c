use Rattle.std.proofs.Common.{◌≡◌, length}
use Rattle.jn_share.specs.Groups.{StartsOf}
use Rattle.jn_share.specs.Refining.{AreLow}
use Rattle.jn_share.proofs.groups.Groups.starts.Given as goal

abbrev pub invariant-loop-k : goal.invariant-loop-k
invariant-loop-k l = record {
  long : length l.parts.items ≡ l.k;
  low : AreLow l.parts.items;
  is : StartsOf l.self.rows.items l.parts.items l.k;
}
