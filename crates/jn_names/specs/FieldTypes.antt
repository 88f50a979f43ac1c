-- The types of the declared fields, in source order.
use Rattle.std.specs.Prelude.{◌≡◌, List, [], ◌∷◌, ◌++◌, map, Result, Ok, Err}
use Rattle.jn_base.specs.declared.tree.Decl.{Decl, fold-Decl}
use Rattle.jn_base.specs.declared.tree.Field.{Field}
use Rattle.jn_base.specs.declared.tree.Member.{Member, fold-Member}
use Rattle.jn_base.specs.declared.tree.Member.TheOpen.{Member-F, Decl-F}
use Rattle.jn_base.specs.declared.tree.Program.{Program}
use Rattle.jn_base.specs.declared.names.Role.TheVariants as role
use Rattle.jn_base.specs.declared.names.Spot.{Spot}
use Rattle.jn_base.specs.declared.names.Vars.{Vars}
use Rattle.jn_base.specs.declared.path.Path.{Path as ShownPath}
use Rattle.jn_base.specs.declared.refusal.Refusal.{Refusal}
use Rattle.jn_base.specs.declared.types.Ty.{Ty}
use Rattle.jn_base.specs.Paths.{Path, shown}
use Rattle.jn_base.specs.ResolveTypes.{mask_names, ResolveType}
use Rattle.jn_table.specs.declared.class.ClassId.{ClassId}
use Rattle.jn_table.specs.declared.field_types.FieldTy.{FieldTy}
use Rattle.jn_table.specs.declared.field_types.FieldTypes.{FieldTypes}
use Rattle.jn_table.specs.declared.table.Table.{Table}
use Rattle.jn_names.specs.declared.fault.NameFault.{NameFault}
use Rattle.jn_names.specs.declared.fault.NameFault.TheVariants.{Refused, Memory}
use Rattle.jn_table.specs.Rows.{IsNumber}

-- a field with the path of the declaration that has it
pub record AtField : Type 0 where
  pub class : Path
  pub field : Field

-- the fields of a tree, by the path of its namespace
abbrev pub FieldsBy : Type 0
FieldsBy = Path → List AtField

abbrev pub all_by : Path → List FieldsBy → List AtField
all_by R [] = []
all_by R (f ∷ fs) = f R ++ all_by R fs

abbrev pub member_step : Member-F FieldsBy FieldsBy → FieldsBy
member_step (Member-F.Inner d) R = d R
member_step (Member-F.Slot f) R = record { class = R; field = f } ∷ []
member_step (Member-F.Body m) R = []

abbrev pub decl_step : Decl-F FieldsBy FieldsBy → FieldsBy
decl_step d P = all_by (d.name.name ∷ P) d.members

unfoldable pub fields_of_member : Member → FieldsBy
fields_of_member = fold-Member FieldsBy FieldsBy member_step decl_step

unfoldable pub fields_of_decl : Decl → FieldsBy
fields_of_decl = fold-Decl FieldsBy FieldsBy member_step decl_step

-- the declared fields of a program, in source order
abbrev pub declared_fields : Program → List AtField
declared_fields p = all_by [] (map fields_of_decl p.decls)

-- where the type of a field stands; no variable is in scope
abbrev pub spot_of : AtField → Spot
spot_of x = record { class = shown x.class; owner = x.field.name.name; role = role.Field }

abbrev pub no_vars : Vars
no_vars = record { list = [] }

abbrev pub FieldGives : Program → AtField → Result Ty Refusal → Type 0
FieldGives p x o = ResolveType p (mask_names p) (spot_of x) no_vars x.field.ty o

abbrev pub before_fields : FieldTy → Result (List FieldTy) Refusal → Result (List FieldTy) Refusal
before_fields x (Err r) = Err r
before_fields x (Ok xs) = Ok (x ∷ xs)

abbrev pub typed : ClassId → AtField → Ty → FieldTy
typed id x ty = record { class = id; field = x.field.name.name; ty = ty }

-- each field with its type, in order, or the first refusal of the first field that has one
pub data FieldsGive (p : Program) (known : List ShownPath) : List AtField → Result (List FieldTy) Refusal → Type 0 where
  none : {o : Result (List FieldTy) Refusal} → o ≡ Ok [] → FieldsGive p known [] o
  refused : {x : AtField} {xs : List AtField} {o : Result (List FieldTy) Refusal} (r : Refusal) → FieldGives p x (Err r)
      → o ≡ Err r
      → FieldsGive p known (x ∷ xs) o
  first : {x : AtField} {xs : List AtField} {o : Result (List FieldTy) Refusal} (ty : Ty) (id : ClassId)
      (others : Result (List FieldTy) Refusal)
      → FieldGives p x (Ok ty) → IsNumber known id x.class → FieldsGive p known xs others
      → o ≡ before_fields (typed id x ty) others
      → FieldsGive p known (x ∷ xs) o

-- what the declared fields of the program give
abbrev pub AllFieldsGive : Program → Table → Result (List FieldTy) Refusal → Type 0
AllFieldsGive p t = FieldsGive p t.known.items (declared_fields p)

-- the answer is one of which T holds; of want of memory nothing is said
abbrev pub FieldsTold : (Result (List FieldTy) Refusal → Type 0) → Result FieldTypes NameFault → Type 0
FieldsTold T (Ok all) = T (Ok all.list.items)
FieldsTold T (Err (Refused r)) = T (Err r)
FieldsTold T (Err Memory) = Unit {0}
