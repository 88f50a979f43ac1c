-- Programs of the class Main alone, and short names for what stands in its bodies.
use Rattle.std.specs.Prelude.{ℕ, pos, List, [], ◌∷◌, map, Bool, false, Option, Some, None, codes}
use Rattle.jn_base.specs.declared.tree.Name.{Name}
use Rattle.jn_base.specs.declared.tree.Text.{Text}
use Rattle.jn_base.specs.declared.tree.Kind.TheVariants as kind
use Rattle.jn_base.specs.declared.tree.Head.TheVariants as head
use Rattle.jn_base.specs.declared.tree.TypeTerm.{TypeTerm}
use Rattle.jn_base.specs.declared.tree.TypeTerm.TheVariants as type
use Rattle.jn_base.specs.declared.tree.Param.{Param}
use Rattle.jn_base.specs.declared.tree.Method.{Method}
use Rattle.jn_base.specs.declared.tree.Member.TheVariants as member
use Rattle.jn_base.specs.declared.tree.Decl.{Decl}
use Rattle.jn_base.specs.declared.tree.Op.{Op}
use Rattle.jn_base.specs.declared.tree.Level.{Level}
use Rattle.jn_base.specs.declared.tree.Link.{Link}
use Rattle.jn_base.specs.declared.tree.Expr.{Expr}
use Rattle.jn_base.specs.declared.tree.Stmt.{Stmt}
use Rattle.jn_base.specs.declared.tree.Stmt.TheVariants as stmt
use Rattle.jn_base.specs.declared.tree.Node.TheVariants as node
use Rattle.jn_base.specs.declared.tree.Program.{Program}
use Rattle.jn_base.specs.Parts.{expr, suffix, link}
use Rattle.jn_base.specs.ExampleTrees.{name, line, word}

abbrev pub Main : Name
Main = name 0

abbrev pub main : Name
main = name 1

abbrev pub text : List ℕ → Text
text bytes = record { bytes = bytes }

-- class Main { .. } with these methods
abbrev pub main_class : List Method → Decl
main_class methods = record {
  kind = kind.Class;
  name = word Main;
  extends = [];
  shares = [];
  adapts = [];
  members = map member.Body methods;
}

-- the program, with the names behind `Main` and `main`
abbrev pub main_alone : List Text → List Method → Program
main_alone names methods = record {
  names = text (codes "Main") ∷ text (codes "main") ∷ names;
  texts = [];
  decls = main_class methods ∷ [];
}

-- ---- methods

abbrev pub method : Option TypeTerm → Name → List Param → List Stmt → Method
method result m params body = record { result = result; name = word m; params = params; sharing = []; body = body }

-- void main() { .. }
abbrev pub main_method : List Stmt → Method
main_method body = method None main [] body

-- the type `Main`
abbrev pub of_main : TypeTerm
of_main = type.Class (record { head = head.Plain; exact = []; names = Main ∷ []; at = line 1 } ∷ []) []

abbrev pub param : Bool → TypeTerm → Name → Param
param fixed t x = record { fixed = fixed; ty = t; name = word x }

abbrev pub an_int : Name → Param
an_int x = param false type.Int x

-- ---- expressions and statements

abbrev pub this : Expr
this = expr (line 1) node.This

abbrev pub null : Expr
null = expr (line 1) node.Null

abbrev pub number : ℕ → Expr
number z = expr (line 1) (node.Int (pos z))

abbrev pub truth : Bool → Expr
truth b = expr (line 1) (node.Bool b)

abbrev pub variable : Name → Expr
variable x = expr (line 1) (node.Var x)

-- r.m(..)
abbrev pub call : Expr → Name → List Expr → Expr
call r m args = expr (line 1) (node.Post r (suffix m (line 1) (Some args) ∷ []))

-- a chain of operators of one level
abbrev pub chain : Level → Expr → List Link → Expr
chain level e links = expr (line 1) (node.Chain level e links)

-- a o b
abbrev pub joined : Level → Op → Expr → Expr → Expr
joined level o a b = chain level a (link o (line 1) b ∷ [])

abbrev pub print : Expr → Stmt
print e = stmt.Print e (line 1)
