use Rattle.std.proofs.Common.{length}
use Rattle.jn_base.specs.declared.tree.Program.{Program}
use Rattle.jn_table.specs.Tables.{IsFilled}
use Rattle.jn_reach.specs.Pairs.{AreBelow}
use Rattle.jn_share.specs.Listing.{listed_of}
use Rattle.jn_share.specs.Pairing.{AddsPairs, StandsBefore}
use Rattle.jn_share.proofs.pairs.add_among.Given as goal

abbrev pub invariant-loop-k : goal.invariant-loop-k
invariant-loop-k l = record {
  below : AreBelow (length l.t.known.items) l.fn.pairs.items → AreBelow (length l.t.known.items) l.pairs.items;
  adds : (p : Program) → IsFilled p l.t → AddsPairs p l.t.known.items (listed_of l.x) (StandsBefore l.numbers l.k-index) l.fn.pairs.items l.pairs.items;
}
