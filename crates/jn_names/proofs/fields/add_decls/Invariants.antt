use Rattle.std.proofs.Common.{◌≡◌, map, take}
use Rattle.jn_base.specs.declared.tree.Program.{Program}
use Rattle.jn_base.specs.ResolveTypes.{mask_names}
use Rattle.jn_table.specs.Tables.{IsFilled}
use Rattle.jn_names.specs.FieldTypes.{all_by, fields_of_decl}
use Rattle.jn_names.specs.FieldSteps.{Adds}
use Rattle.jn_names.proofs.fields.add_decls.Given as goal

abbrev pub invariant-loop-d : goal.invariant-loop-d
invariant-loop-d l =
    (p : Program) → IsFilled p l.t → l.names ≡ mask_names p
    → Adds p l.t (all_by l.namespace (map fields_of_decl (take l.d-index l.decls))) l.fn.out.items l.out.items
