-- What the types of all declared fields are, and what the limits of entries and slots say.
use Rattle.std.specs.Prelude.{List, Ok}
use Rattle.jn_base.specs.declared.tree.Program.{Program}
use Rattle.jn_base.specs.declared.refusal.Refusal.{Refusal}
use Rattle.jn_table.specs.declared.field_types.FieldTy.{FieldTy}
use Rattle.jn_table.specs.declared.table.Table.{Table}
use Rattle.jn_names.specs.FieldTypes.{AllFieldsGive}
use Rattle.jn_rules.specs.Verdict.{MembersPass, LimitsPass as RulesPass, HeadersRefuse}
use Rattle.jn_share.specs.Limits.{LimitsPass, LimitRefused}
use Rattle.jn_share.specs.Slots.{AreFieldTypes}

-- where the declared fields of p give these types, each is the type of a declared field, and each declared field has one
abbrev pub GivenTypesFit : Type 0
GivenTypesFit = (p : Program) (t : Table) (types : List FieldTy) → AllFieldsGive p t (Ok types) → AreFieldTypes p t.known.items types

-- where the members of p pass, so do the limits if slots find neither passed, and what they refuse is refused
pub record LimitsAgree (p : Program) : Type 0 where
  pub passes : LimitsPass p → RulesPass p
  pub refused : (r : Refusal) → LimitRefused p r → HeadersRefuse p r

abbrev pub LimitsAreTheRules : Type 0
LimitsAreTheRules = (p : Program) → MembersPass p → LimitsAgree p
