use Rattle.std.proofs.Common.{◌≡◌, length}
use Rattle.jn_share.specs.Firsts.{FirstsTo}
use Rattle.jn_share.specs.Refining.{SaysOfAll, AreSettled}
use Rattle.jn_share.proofs.firsts.firsts_of.Given as goal

abbrev pub invariant-loop-k : goal.invariant-loop-k
invariant-loop-k l = record {
  long : length l.rows.items ≡ l.k;
  firsts : SaysOfAll l.t l.g l.types l.all (λ p. AreSettled p l.t.known.items l.parts → FirstsTo p l.t l.k l.rows.items);
}
