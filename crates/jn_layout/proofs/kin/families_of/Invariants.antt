use Rattle.std.proofs.Common.{◌≡◌, length}
use Rattle.jn_base.specs.declared.tree.Program.{Program}
use Rattle.jn_table.specs.Tables.{IsFilled}
use Rattle.jn_share.specs.Prepared.{FamiliesTo}
use Rattle.jn_share.specs.Refining.{AreLow}
use Rattle.jn_layout.proofs.kin.families_of.Given as goal

abbrev pub invariant-loop-k : goal.invariant-loop-k
invariant-loop-k l = record {
  long : length l.all.items ≡ l.k;
  low : AreLow l.all.items;
  families : (p : Program) → IsFilled p l.t → FamiliesTo l.t.known.items l.k l.all.items;
}
