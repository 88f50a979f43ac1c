-- The types of fields, declaration by declaration.
use Rattle.std.specs.Prelude.{◌≡◌, List, ◌++◌, Result, Ok, Err}
use Rattle.jn_base.specs.declared.tree.Name.{Name}
use Rattle.jn_base.specs.declared.tree.Program.{Program}
use Rattle.jn_base.specs.ResolveTypes.{mask_names}
use Rattle.jn_table.specs.declared.field_types.FieldTy.{FieldTy}
use Rattle.jn_table.specs.declared.table.Table.{Table}
use Rattle.jn_table.specs.Tables.{IsFilled}
use Rattle.jn_names.specs.declared.fault.NameFault.{NameFault}
use Rattle.jn_names.specs.declared.fault.NameFault.TheVariants.{Refused, Memory}
use Rattle.jn_names.specs.FieldTypes.{AtField, FieldsGive}

-- behind the types that were there stand those of these fields
pub record Adds (p : Program) (t : Table) (xs : List AtField) (before after : List FieldTy) : Type 0 where
  pub types : List FieldTy
  pub is : after ≡ before ++ types
  pub give : FieldsGive p t.known.items xs (Ok types)

-- they are added, or the first refusal is answered
abbrev pub AddsOr : Program → Table → List AtField → List FieldTy → List FieldTy → Result (Unit {0}) NameFault → Type 0
AddsOr p t xs before after (Ok u) = Adds p t xs before after
AddsOr p t xs before after (Err (Refused r)) = FieldsGive p t.known.items xs (Err r)
AddsOr p t xs before after (Err Memory) = Unit {0}

-- of each program of which the table is, with these mask names
abbrev pub SaysAdds : Table → List Name → List AtField → List FieldTy → List FieldTy → Result (Unit {0}) NameFault → Type 0
SaysAdds t names xs before after told = (p : Program) → IsFilled p t → names ≡ mask_names p → AddsOr p t xs before after told
