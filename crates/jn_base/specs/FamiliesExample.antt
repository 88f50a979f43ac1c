-- Two heirs of one family, and the family that joins them:
--   package base {
--     class Exp { int eval() { .. } }
--     class Lit extends Exp { int v; void Lit(int a) { .. } int eval() { .. } }
--     class Add extends Exp { Exp l; Exp r; void Add(Exp a, Exp b) { .. } int eval() { .. } }
--     class Make { .. }
--   }
--   package shower extends base { class Exp { void show() { .. } } class Lit { void show() { .. } } class Add { void show() { .. } } }
--   package doubler extends base { class Lit { int eval() { .. } } }
--   package both extends shower & doubler { }
use Rattle.std.specs.Prelude.{◌≡◌, List, [], ◌∷◌, Contains, ◌↔◌}
use Rattle.jn_base.specs.declared.tree.Name.{Name}
use Rattle.jn_base.specs.declared.tree.Program.{Program}
use Rattle.jn_base.specs.Paths.{Path}
use Rattle.jn_base.specs.Supers.{Sup}
use Rattle.jn_base.specs.Universe.{InUniverse}
use Rattle.jn_base.specs.Members.{Least, IsField, IsConstructor}
use Rattle.jn_base.specs.ExampleTrees.{name, package_at, class_in, method, field, program}

abbrev pub base : Name
base = name 0

abbrev pub Exp : Name
Exp = name 1

abbrev pub Lit : Name
Lit = name 2

abbrev pub Add : Name
Add = name 3

abbrev pub Make : Name
Make = name 4

abbrev pub shower : Name
shower = name 5

abbrev pub doubler : Name
doubler = name 6

abbrev pub both : Name
both = name 7

abbrev pub eval : Name
eval = name 8

abbrev pub show : Name
show = name 9

abbrev pub v : Name
v = name 10

abbrev pub l : Name
l = name 11

abbrev pub r : Name
r = name 12

abbrev pub families : Program
families = program (
    package_at 1 base [] (
    class_in Exp [] (method eval ∷ [])
    ∷ class_in Lit (Exp ∷ []) (field v ∷ method Lit ∷ method eval ∷ [])
    ∷ class_in Add (Exp ∷ []) (field l ∷ field r ∷ method Add ∷ method eval ∷ [])
    ∷ class_in Make [] [] ∷ [])
    ∷ package_at 2 shower (base ∷ []) (
    class_in Exp [] (method show ∷ [])
    ∷ class_in Lit [] (method show ∷ [])
    ∷ class_in Add [] (method show ∷ []) ∷ [])
    ∷ package_at 3 doubler (base ∷ []) (class_in Lit [] (method eval ∷ []) ∷ [])
    ∷ package_at 4 both (shower ∷ doubler ∷ []) [] ∷ [])

-- S is a class of one of these names in one of these packages
pub record IsClassOf (Cs As : List Name) (S : Path) : Type 0 where
  pub C : Name
  pub A : Name
  pub is : S ≡ C ∷ A ∷ []
  pub class : Contains Cs C
  pub package_in : Contains As A

abbrev pub all_four : List Name
all_four = both ∷ shower ∷ doubler ∷ base ∷ []

pub record FamiliesExample : Type 0 where
  -- both.Lit and both.Add stand in no text, and are classes
  pub lit : InUniverse families (Lit ∷ both ∷ [])
  pub add : InUniverse families (Add ∷ both ∷ [])
  -- their supers are the classes of these names and of the name Exp in the four families
  pub lit_supers : (S : Path) → Sup families (Lit ∷ both ∷ []) S ↔ IsClassOf (Lit ∷ Exp ∷ []) all_four S
  pub add_supers : (S : Path) → Sup families (Add ∷ both ∷ []) S ↔ IsClassOf (Add ∷ Exp ∷ []) all_four S
  -- both.Lit evaluates as doubler's does, shows as shower's, and has base's field and constructor
  pub lit_eval : Least families (Lit ∷ both ∷ []) eval (Lit ∷ doubler ∷ [])
  pub lit_show : Least families (Lit ∷ both ∷ []) show (Lit ∷ shower ∷ [])
  pub lit_v : IsField families (Lit ∷ both ∷ []) v (Lit ∷ base ∷ [])
  pub lit_made : IsConstructor families (Lit ∷ both ∷ []) (Lit ∷ base ∷ [])
  -- both.Add evaluates as base's does, and shows as shower's
  pub add_eval : Least families (Add ∷ both ∷ []) eval (Add ∷ base ∷ [])
  pub add_show : Least families (Add ∷ both ∷ []) show (Add ∷ shower ∷ [])
