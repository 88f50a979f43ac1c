use Rattle.std.proofs.Common.{length, map, take}
use Rattle.jn_base.specs.declared.tree.Program.{Program}
use Rattle.jn_table.specs.Tables.{IsFilled}
use Rattle.jn_reach.specs.Pairs.{AreBelow}
use Rattle.jn_share.specs.Listing.{listed_of}
use Rattle.jn_share.specs.Pairing.{AreByFamily, ArePairs}
use Rattle.jn_share.proofs.pairs.pairs_of.Given as goal

abbrev pub invariant-loop-x : goal.invariant-loop-x
invariant-loop-x l = record {
  below : AreBelow (length l.t.known.items) l.pairs.items;
  exact : (p : Program) → IsFilled p l.t → AreByFamily l.t.known.items l.classes → ArePairs p l.t.known.items (map listed_of (take l.x-index l.xs)) l.pairs.items;
}
