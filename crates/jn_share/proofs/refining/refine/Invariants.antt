use Rattle.std.proofs.Common.{◌≡◌, length}
use Rattle.jn_share.specs.Refining.{AreLow, Grows, SaysOfAll, RefinesTo}
use Rattle.jn_share.proofs.refining.refine.Given as goal

abbrev pub invariant-loop-v : goal.invariant-loop-v
invariant-loop-v l = record {
  long : length l.next.items ≡ l.v;
  low : AreLow l.next.items;
  grows : Grows l.parts l.next.items;
  refines : SaysOfAll l.t l.g l.types l.all (λ p. RefinesTo p l.t l.parts l.next.items l.v);
}
