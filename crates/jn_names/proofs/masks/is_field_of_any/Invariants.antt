use Rattle.jn_reach.proofs.Searches.{NoneBefore}
use Rattle.jn_base.specs.declared.tree.Program.{Program}
use Rattle.jn_base.specs.Paths.{Path}
use Rattle.jn_table.specs.Rows.{HasField}
use Rattle.jn_table.specs.Tables.{IsFilled}
use Rattle.jn_names.proofs.masks.is_field_of_any.Given as goal

abbrev pub invariant-loop-b : goal.invariant-loop-b
invariant-loop-b l = (p : Program) → IsFilled p l.t → NoneBefore (λ (B : Path). HasField p B l.name) l.bounds l.b-index
