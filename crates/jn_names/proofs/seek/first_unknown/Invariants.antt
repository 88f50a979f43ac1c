use Rattle.std.proofs.Common.{Option, drop}
use Rattle.jn_base.specs.declared.tree.Name.{Name}
use Rattle.jn_base.specs.declared.tree.Program.{Program}
use Rattle.jn_base.specs.Resolve.{FirstUnknown}
use Rattle.jn_table.specs.Tables.{IsFilled}
use Rattle.jn_names.proofs.seek.first_unknown.Given as goal

abbrev pub invariant-loop-name : goal.invariant-loop-name
invariant-loop-name l =
    (p : Program) (o : Option Name) → IsFilled p l.t → FirstUnknown p l.at (drop l.name-index l.names) o
    → FirstUnknown p l.from l.names o
