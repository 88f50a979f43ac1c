-- What stands twice, place by place.
use Rattle.std.specs.Prelude.{◌≡◌, List, ◌∷◌, ◌++◌, map, Contains, None, Bool, ◌↔◌}
use Rattle.jn_base.specs.declared.tree.Name.{Name}
use Rattle.jn_base.specs.declared.tree.Named.{Named}
use Rattle.jn_base.specs.declared.tree.Place.{Place}
use Rattle.jn_base.specs.declared.tree.TypeTerm.{TypeTerm}
use Rattle.jn_base.specs.declared.tree.Expr.{Expr}
use Rattle.jn_base.specs.declared.tree.Program.{Program}
use Rattle.jn_base.specs.declared.tree.Decl.{Decl}
use Rattle.jn_base.specs.declared.tree.Field.{Field}
use Rattle.jn_base.specs.declared.tree.Method.{Method}
use Rattle.jn_base.specs.declared.tree.Stmt.{Stmt, out-Stmt}
use Rattle.jn_base.specs.declared.tree.Stmt.TheOpen.{Stmt-F}
use Rattle.jn_base.specs.declared.refusal.Refusal.{Refusal}
use Rattle.jn_base.specs.Paths.{Path, nested, fields, methods, StandsAt}
use Rattle.jn_base.specs.Duplicates.{param_name, param_scope, refusal, duplicate, duplicates}

-- the name stands in the list behind an equal one
pub record IsSecond (names : List Named) (second : Named) : Type 0 where
  pub before : List Named
  pub after : List Named
  pub is : names ≡ before ++ second ∷ after
  pub earlier : Named
  pub among : Contains before earlier
  pub same : earlier.name ≡ second.name

-- a local that the statements declare where its name is in scope; the names `scope` are in scope before them
pub data LocalTwice : List Name → List Stmt → Named → Type 0 where
  declared : {scope : List Name} {s : Stmt} {ss : List Stmt} {n : Named} (fixed : Bool) (ty : TypeTerm) (e : Expr)
      → out-Stmt s ≡ Stmt-F.Local fixed ty n e → Contains scope n.name → LocalTwice scope (s ∷ ss) n
  -- a local is in scope behind it
  behind_local : {scope : List Name} {s : Stmt} {ss : List Stmt} {n : Named} (fixed : Bool) (ty : TypeTerm) (m : Named) (e : Expr)
      → out-Stmt s ≡ Stmt-F.Local fixed ty m e → LocalTwice (m.name ∷ scope) ss n → LocalTwice scope (s ∷ ss) n
  behind_other : {scope : List Name} {s : Stmt} {ss : List Stmt} {n : Named}
      → ((fixed : Bool) (ty : TypeTerm) (m : Named) (e : Expr) → out-Stmt s ≡ Stmt-F.Local fixed ty m e → ⊥)
      → LocalTwice scope ss n → LocalTwice scope (s ∷ ss) n
  -- what is in scope around a block is in scope in it
  within_block : {scope : List Name} {s : Stmt} {ss body : List Stmt} {n : Named} → out-Stmt s ≡ Stmt-F.Block body
      → LocalTwice scope body n → LocalTwice scope (s ∷ ss) n
  within_then : {scope : List Name} {s : Stmt} {ss body other : List Stmt} {n : Named} (e : Expr) (at : Place)
      → out-Stmt s ≡ Stmt-F.If e body other at → LocalTwice scope body n → LocalTwice scope (s ∷ ss) n
  within_else : {scope : List Name} {s : Stmt} {ss body other : List Stmt} {n : Named} (e : Expr) (at : Place)
      → out-Stmt s ≡ Stmt-F.If e body other at → LocalTwice scope other n → LocalTwice scope (s ∷ ss) n
  within_while : {scope : List Name} {s : Stmt} {ss body : List Stmt} {n : Named} (e : Expr) (at : Place)
      → out-Stmt s ≡ Stmt-F.While e body at → LocalTwice scope body n → LocalTwice scope (s ∷ ss) n

-- a second parameter of one name, or a local with the name of a parameter or local in scope
pub data MethodTwice (m : Method) (n : Named) : Type 0 where
  parameter : IsSecond (map param_name m.params) n → MethodTwice m n
  local : LocalTwice (param_scope m.params) m.body n → MethodTwice m n

abbrev pub decl_name : Decl → Named
decl_name d = d.name

abbrev pub field_name : Field → Named
field_name f = f.name

abbrev pub method_name : Method → Named
method_name m = m.name

-- a second name in one list, a second declaration, field or method of one name in the body, or one inside a method
pub data BodyTwice (d : Decl) (n : Named) : Type 0 where
  extended : IsSecond d.extends n → BodyTwice d n
  shared : IsSecond d.shares n → BodyTwice d n
  adapted : IsSecond d.adapts n → BodyTwice d n
  declaration : IsSecond (map decl_name (nested d.members)) n → BodyTwice d n
  field : IsSecond (map field_name (fields d.members)) n → BodyTwice d n
  method : IsSecond (map method_name (methods d.members)) n → BodyTwice d n
  inside : (m : Method) → Contains (methods d.members) m → MethodTwice m n → BodyTwice d n

-- a second top-level declaration of one name, which shows no class, or one of these, which shows the path of its declaration
pub data Twice (p : Program) (r : Refusal) : Type 0 where
  at_top : (n : Named) → IsSecond (map decl_name p.decls) n → r ≡ refusal None n → Twice p r
  in_body : (R : Path) (d : Decl) (n : Named) → StandsAt p R d → BodyTwice d n → r ≡ duplicate R n → Twice p r

-- the duplicates are exactly these
abbrev pub DuplicatesAreTwice : Type 0
DuplicatesAreTwice = (p : Program) (r : Refusal) → Contains (duplicates p) r ↔ Twice p r
