use Rattle.std.proofs.Common.{◌≡◌, map, take}
use Rattle.jn_base.specs.declared.tree.Program.{Program}
use Rattle.jn_base.specs.ResolveTypes.{mask_names}
use Rattle.jn_table.specs.Tables.{IsFilled}
use Rattle.jn_names.specs.FieldTypes.{all_by, fields_of_member}
use Rattle.jn_names.specs.FieldSteps.{Adds}
use Rattle.jn_names.proofs.fields.+field_types.Given as goal

abbrev pub invariant-add_members-loop-m : goal.invariant-add_members-loop-m
invariant-add_members-loop-m l =
    (p : Program) → IsFilled p l.t → l.names ≡ mask_names p
    → Adds p l.t (all_by l.class (map fields_of_member (take l.m-index l.members))) l.fn.out.items l.out.items
