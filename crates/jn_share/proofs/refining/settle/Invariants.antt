use Rattle.std.proofs.Common.{◌≡◌, length}
use Rattle.jn_share.specs.Parting.{SamePart, KeepsOne}
use Rattle.jn_share.specs.Refining.{AreLow, Grows, SaysOfAll, RefinesTo, slack_from}
use Rattle.jn_share.proofs.refining.settle.Given as goal

abbrev pub invariant-steps : goal.invariant-steps
invariant-steps l = record {
  whole : length l.parts.items ≡ length l.g.rows.items;
  low : AreLow l.parts.items;
  next_long : length l.next.items ≡ length l.parts.items;
  next_low : AreLow l.next.items;
  grows : Grows l.parts.items l.next.items;
  keeps : SaysOfAll l.t l.g l.types l.all (λ p. KeepsOne p (SamePart l.t.known.items l.parts.items));
  refines : SaysOfAll l.t l.g l.types l.all (λ p. RefinesTo p l.t l.parts.items l.next.items (length l.parts.items));
}

abbrev pub decreases-steps : goal.decreases-steps
decreases-steps l = slack_from 0 l.parts.items
