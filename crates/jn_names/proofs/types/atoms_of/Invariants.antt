use Rattle.std.proofs.Common.{◌≡◌, length}
use Rattle.jn_base.specs.declared.tree.Program.{Program}
use Rattle.jn_table.specs.Tables.{IsFilled}
use Rattle.jn_names.proofs.TypeProof.{AtomsTo}
use Rattle.jn_names.proofs.types.atoms_of.Given as goal

abbrev pub invariant-loop-term : goal.invariant-loop-term
invariant-loop-term l = record {
  told : (p : Program) → IsFilled p l.t → AtomsTo p l.spot l.vars l.terms l.term-index l.atoms;
  long : length l.atoms ≡ l.term-index;
}
