-- A depth of the table is the definition's.
use Rattle.std.specs.Prelude.{◌≡◌, ◌+◌, ℕ, List, ◌∷◌, length, slice_get, Some, ◌↔◌}
use Rattle.jn_reach.specs.Graph.{HasEdge}
use Rattle.jn_reach.specs.Numbers.{Numbers, AreDistinct}
use Rattle.jn_base.specs.declared.tree.Name.{Name}
use Rattle.jn_base.specs.declared.tree.Program.{Program}
use Rattle.jn_base.specs.declared.tree.Kind.{Kind}
use Rattle.jn_base.specs.declared.tree.Decl.{Decl}
use Rattle.jn_base.specs.declared.tree.Method.{Method}
use Rattle.jn_base.specs.declared.tree.Field.{Field}
use Rattle.jn_base.specs.Paths.{Path, StandsAt, Declared, Extends}
use Rattle.jn_base.specs.Members.{MethodAt, FieldAt}
use Rattle.jn_base.specs.Supers.{Direct, Sup, Member}
use Rattle.jn_base.specs.Universe.{IsNamespace}
use Rattle.jn_table.specs.Gather.{DeclaresIn, IsPart, OwnIn, KindIn}
use Rattle.jn_table.specs.declared.entry.Entry.{Entry}
use Rattle.jn_table.specs.declared.gather.Part.TheVariants as part
use Rattle.jn_table.specs.declared.level.Child.{Child}
use Rattle.jn_table.specs.declared.level.Level.{Level}

-- a declaration at R is of that kind, has a method, a field, of that name
abbrev pub KindAt : Program → Path → Kind → Type 0
KindAt p R kind = (d : Decl) × StandsAt p R d × (d.kind ≡ kind)

abbrev pub MethodNamed : Program → Path → Name → Type 0
MethodNamed p R m = (x : Method) × MethodAt p R m x

abbrev pub FieldNamed : Program → Path → Name → Type 0
FieldNamed p R f = (x : Field) × FieldAt p R f x

-- the entries are the program's declarations
pub record IsFlat (p : Program) (es : List Entry) : Type 0 where
  pub declared : (P : Path) (C : Name) → DeclaresIn es P C ↔ Declared p (C ∷ P)
  pub extends : (P : Path) (C D : Name) → IsPart es P C part.Extends D ↔ Extends p (C ∷ P) D
  pub kinds : (R : Path) (kind : Kind) → KindIn es R kind ↔ KindAt p R kind
  pub methods : (R : Path) (m : Name) → OwnIn es R part.Methods m ↔ MethodNamed p R m
  pub fields : (R : Path) (f : Name) → OwnIn es R part.Fields f ↔ FieldNamed p R f

-- the paths of depth n, with the direct supers and the supers of each
pub record IsLevel (p : Program) (n : ℕ) (level : Level) : Type 0 where
  pub paths_sound : (i : ℕ) (P : Path) → slice_get level.paths.items i ≡ Some P → IsNamespace p P × (length P ≡ n)
  pub paths_complete : (P : Path) → IsNamespace p P → length P ≡ n → (i : ℕ) × (slice_get level.paths.items i ≡ Some P)
  pub distinct : AreDistinct level.paths.items
  pub direct : Numbers (Direct p) level.paths.items (HasEdge level.direct.items)
  pub sups : Numbers (Sup p) level.paths.items (HasEdge level.sups.items)

-- the children are the members of the level's paths, each once
pub record AreChildren (p : Program) (level : Level) (children : List Child) : Type 0 where
  pub sound : (k : ℕ) (child : Child) → slice_get children k ≡ Some child
      → (P : Path) × (slice_get level.paths.items child.up ≡ Some P) × Member p P child.name
  pub complete : (i : ℕ) (P : Path) (C : Name) → slice_get level.paths.items i ≡ Some P → Member p P C
      → (k : ℕ) × (child : Child) × (slice_get children k ≡ Some child) × (child.up ≡ i) × (child.name ≡ C)
  pub distinct : (k l : ℕ) (a b : Child) → slice_get children k ≡ Some a → slice_get children l ≡ Some b
      → a.up ≡ b.up → a.name ≡ b.name → k ≡ l

-- of whatever program the level is, the level below it is too
abbrev pub IsNextOf : List Entry → Level → List Child → Level → Type 0
IsNextOf es level children below =
    (p : Program) (n : ℕ) → IsFlat p es → IsLevel p n level → AreChildren p level children → IsLevel p (n + 1) below

-- the level of the program itself, whatever the program
abbrev pub IsRoot : Level → Type 0
IsRoot level = (p : Program) → IsLevel p 0 level
