-- Names that stand twice, and where they are found.
use Rattle.std.specs.Prelude.{◌≡◌, ℕ, List, [], ◌∷◌, None, false}
use Rattle.jn_base.specs.declared.tree.Name.{Name}
use Rattle.jn_base.specs.declared.tree.Named.{Named}
use Rattle.jn_base.specs.declared.tree.Kind.TheVariants as kind
use Rattle.jn_base.specs.declared.tree.Member.{Member}
use Rattle.jn_base.specs.declared.tree.Member.TheVariants as member
use Rattle.jn_base.specs.declared.tree.TypeTerm.TheVariants as type
use Rattle.jn_base.specs.declared.tree.Expr.{Expr}
use Rattle.jn_base.specs.declared.tree.Node.TheVariants as node
use Rattle.jn_base.specs.declared.tree.Stmt.{Stmt}
use Rattle.jn_base.specs.declared.tree.Stmt.TheVariants as stmt
use Rattle.jn_base.specs.declared.tree.Param.{Param}
use Rattle.jn_base.specs.declared.tree.Decl.{Decl}
use Rattle.jn_base.specs.declared.tree.Program.{Program}
use Rattle.jn_base.specs.Duplicates.{duplicates, refusal, duplicate}
use Rattle.jn_base.specs.ExampleTrees.{name, line, word, method, program}

abbrev pub Main : Name
Main = name 0

abbrev pub a : Name
a = name 1

abbrev pub b : Name
b = name 2

abbrev pub f : Name
f = name 3

-- the name on that line
abbrev pub on : ℕ → Name → Named
on k n = record { name = n; at = line k }

abbrev pub field_on : ℕ → Name → Member
field_on k n = member.Slot (record { ty = type.Int; name = on k n })

abbrev pub class_of : ℕ → Name → List Named → List Member → Decl
class_of k n extends members = record { kind = kind.Class; name = on k n; extends = extends; shares = []; adapts = []; members = members }

abbrev pub zero_at : Expr
zero_at = record { at = line 1; node = node.Null }

abbrev pub int_on : ℕ → Name → Stmt
int_on k n = stmt.Local false type.Int (on k n) zero_at

abbrev pub param_on : ℕ → Name → Param
param_on k n = record { fixed = false; ty = type.Int; name = on k n }

abbrev pub body_of : Name → List Param → List Stmt → Member
body_of n params body = member.Body (record { result = None; name = word n; params = params; sharing = []; body = body })

-- the same name as a field and as a method, and each field once
abbrev pub apart : Program
apart = program (class_of 1 Main [] (field_on 2 a ∷ method a ∷ field_on 3 b ∷ []) ∷ [])

-- class Main { int a; int a; void f() { } }
abbrev pub two_fields : Program
two_fields = program (class_of 1 Main [] (field_on 2 a ∷ field_on 3 a ∷ method f ∷ []) ∷ [])

-- class Main { } class a { } class Main extends a & a { int b; int b; }
abbrev pub two_classes : Program
two_classes = program (class_of 1 Main [] [] ∷ class_of 2 a [] [] ∷ class_of 3 Main (on 4 a ∷ on 5 a ∷ []) (field_on 6 b ∷ field_on 7 b ∷ []) ∷ [])

-- class Main { class a { } class a { void f(int b, int b) { } } }
abbrev pub two_nested : Program
two_nested = program (class_of 1 Main [] (
    member.Inner (class_of 2 a [] []) ∷ member.Inner (class_of 3 a [] (body_of f (param_on 4 b ∷ param_on 5 b ∷ []) [] ∷ [])) ∷ []) ∷ [])

-- void f(int a) { { int b = .. } int b = ..; if (..) { int b = ..; } else { int a = ..; } }
abbrev pub scopes : Program
scopes = program (class_of 1 Main [] (body_of f (param_on 2 a ∷ []) (
    stmt.Block (int_on 3 b ∷ []) ∷ int_on 4 b ∷ stmt.If zero_at (int_on 5 b ∷ []) (int_on 6 a ∷ []) (line 5) ∷ []) ∷ []) ∷ [])

pub record DuplicatesExample : Type 0 where
  -- fields, methods and nested declarations have name spaces of their own
  pub none : duplicates apart ≡ []
  -- the second field, in its class
  pub fields : duplicates two_fields ≡ duplicate (Main ∷ []) (on 3 a) ∷ []
  -- a second top-level declaration shows no class; behind it its list, then its body
  pub classes : duplicates two_classes
      ≡ refusal None (on 3 Main) ∷ duplicate (Main ∷ []) (on 5 a) ∷ duplicate (Main ∷ []) (on 7 b) ∷ []
  -- a second nested one shows the class of the body in which both stand; a parameter the class of its method
  pub nested : duplicates two_nested ≡ duplicate (Main ∷ []) (on 3 a) ∷ duplicate (a ∷ Main ∷ []) (on 5 b) ∷ []
  -- a block's name isn't in scope behind it; both blocks of an `if` are in the scope around
  pub locals : duplicates scopes ≡ duplicate (Main ∷ []) (on 5 b) ∷ duplicate (Main ∷ []) (on 6 a) ∷ []
