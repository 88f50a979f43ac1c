-- The declared bodies and fields of a program, with their kinds.
use Rattle.std.specs.Prelude.{◌≡◌, ℕ, List, ◌∷◌, ◌++◌, map, Option, Some, None}
use Rattle.jn_reach.specs.Each.{Each}
use Rattle.jn_base.specs.declared.tree.Param.{Param}
use Rattle.jn_base.specs.declared.tree.Method.{Method}
use Rattle.jn_base.specs.declared.tree.TypeTerm.{TypeTerm}
use Rattle.jn_base.specs.declared.tree.TypeTerm.TheVariants as term
use Rattle.jn_base.specs.declared.tree.Member.{Member, fold-Member}
use Rattle.jn_base.specs.declared.tree.Member.TheOpen.{Decl-F}
use Rattle.jn_base.specs.declared.tree.Program.{Program}
use Rattle.jn_base.specs.Paths.{Path}
use Rattle.jn_table.specs.declared.class.ClassId.{ClassId}
use Rattle.jn_table.specs.declared.table.Table.{Table}
use Rattle.jn_table.specs.Tables.{StandsFor}
use Rattle.jn_code.specs.declared.image.Shape.{Shape}
use Rattle.jn_names.specs.Bounds.{HasNone}
use Rattle.jn_names.specs.FieldTypes.{AtField, declared_fields}
use Rattle.jn_sem.specs.Does.{Body}
use Rattle.jn_agree.specs.Rows.{InOrder, of_member, one_by_one, bodies_of}
use Rattle.jn_layout.specs.declared.declared.BodyAt.{BodyAt}
use Rattle.jn_layout.specs.declared.declared.FieldAt.{FieldAt}
use Rattle.jn_layout.specs.declared.declared.Declared.{Declared}

-- ---- kinds, as they are written

abbrev pub term_kind : TypeTerm → ℕ
term_kind term.Int = 1
term_kind term.Bool = 2
term_kind (term.Class ts ms) = 3

abbrev pub param_kind : Param → ℕ
param_kind x = term_kind x.ty

-- 0 where there is no result
abbrev pub given_kind : Option TypeTerm → ℕ
given_kind None = 0
given_kind (Some t) = term_kind t

-- the shape of a method
abbrev pub shape_of : Method → Shape
shape_of m = record { params = map param_kind m.params; result = given_kind m.result }

-- ---- bodies of a tree, by the path of its namespace

abbrev pub decl_bodies : Decl-F InOrder InOrder → InOrder
decl_bodies d P = one_by_one d.members (d.name.name ∷ P)

unfoldable pub bodies_in : Member → InOrder
bodies_in = fold-Member InOrder InOrder of_member decl_bodies

abbrev pub all_bodies : Path → List InOrder → List Body
all_bodies R fs = one_by_one fs R

-- ---- with their numbers

-- the class is the number of the path, none where it has none
abbrev pub IsClassOf : Table → Path → Option ClassId → Type 0
IsClassOf t P None = HasNone t P
IsClassOf t P (Some id) = StandsFor t id P

-- the entry is that of the body
pub record IsBodyAt (t : Table) (b : Body) (x : BodyAt) : Type 0 where
  pub class : IsClassOf t b.class x.class
  pub name : x.name ≡ b.method.name.name
  pub params : x.params.items ≡ map param_kind b.method.params
  pub result : x.result ≡ given_kind b.method.result

-- the entry is that of the field
pub record IsFieldAt (t : Table) (g : AtField) (x : FieldAt) : Type 0 where
  pub class : IsClassOf t g.class x.class
  pub name : x.name ≡ g.field.name.name
  pub kind : x.kind ≡ term_kind g.field.ty

-- behind what was there stand those of these things, in their order
pub record Adds {A B : Type 0} (R : A → B → Type 0) (xs : List A) (before after : List B) : Type 0 where
  pub more : List B
  pub is : after ≡ before ++ more
  pub each : Each R xs more

pub record AddsBoth (t : Table) (bodies : List Body) (fields : List AtField) (before after : Declared) : Type 0 where
  pub bodies_are : Adds (IsBodyAt t) bodies before.bodies.items after.bodies.items
  pub fields_are : Adds (IsFieldAt t) fields before.fields.items after.fields.items

-- the entries are those of all declared bodies, and of all declared fields
pub record AreDeclared (p : Program) (t : Table) (all : Declared) : Type 0 where
  pub bodies : Each (IsBodyAt t) (bodies_of p) all.bodies.items
  pub fields : Each (IsFieldAt t) (declared_fields p) all.fields.items
