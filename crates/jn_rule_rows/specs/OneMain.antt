-- Programs of one class with one method: class Main { void main() { .. } }
use Rattle.std.specs.Prelude.{ℕ, List, [], ◌∷◌, None, codes}
use Rattle.jn_base.specs.declared.tree.Name.{Name}
use Rattle.jn_base.specs.declared.tree.Text.{Text}
use Rattle.jn_base.specs.declared.tree.Kind.TheVariants as kind
use Rattle.jn_base.specs.declared.tree.Method.{Method}
use Rattle.jn_base.specs.declared.tree.Member.TheVariants as member
use Rattle.jn_base.specs.declared.tree.Decl.{Decl}
use Rattle.jn_base.specs.declared.tree.Stmt.{Stmt}
use Rattle.jn_base.specs.declared.tree.Program.{Program}
use Rattle.jn_base.specs.ExampleTrees.{name, word}

abbrev pub Main : Name
Main = name 0

abbrev pub main : Name
main = name 1

abbrev pub x : Name
x = name 2

abbrev pub f : Name
f = name 3

abbrev pub text : List ℕ → Text
text bytes = record { bytes = bytes }

abbrev pub main_method : List Stmt → Method
main_method body = record { result = None; name = word main; params = []; sharing = []; body = body }

abbrev pub main_class : List Stmt → Decl
main_class body = record {
  kind = kind.Class;
  name = word Main;
  extends = [];
  shares = [];
  adapts = [];
  members = member.Body (main_method body) ∷ [];
}

abbrev pub main_with : List Stmt → Program
main_with body = record {
  names = text (codes "Main") ∷ text (codes "main") ∷ text (codes "x") ∷ text (codes "f") ∷ [];
  texts = [];
  decls = main_class body ∷ [];
}
