use Rattle.std.proofs.Common.{Option, [], take, drop}
use Rattle.jn_base.specs.declared.tree.Named.{Named}
use Rattle.jn_base.specs.declared.tree.Program.{Program}
use Rattle.jn_base.specs.ResolveTypes.{FirstUnfit}
use Rattle.jn_table.specs.Tables.{IsFilled}
use Rattle.jn_names.specs.Masking.{seen_of}
use Rattle.jn_names.proofs.masks.first_unfit.Given as goal

abbrev pub invariant-loop-i : goal.invariant-loop-i
invariant-loop-i l =
    (p : Program) (o : Option Named) → IsFilled p l.t → FirstUnfit p l.bounds (seen_of (take l.i l.masks)) (drop l.i l.masks) o
    → FirstUnfit p l.bounds [] l.masks o
