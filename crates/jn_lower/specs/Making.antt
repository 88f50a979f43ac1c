-- What a walk does at `new` and at `super`.
use Rattle.std.specs.Prelude.{◌≡◌, ◌++◌, ℕ, List, [], ◌∷◌, length, reverse, Bool, true, false, Option, Some, slice_get}
use Rattle.jn_base.specs.declared.tree.Name.{Name}
use Rattle.jn_base.specs.declared.tree.Method.{Method}
use Rattle.jn_base.specs.declared.types.Atom.{Atom as ShownAtom}
use Rattle.jn_base.specs.declared.path.Path.{Path as ShownPath}
use Rattle.jn_base.specs.Paths.{Path}
use Rattle.jn_base.specs.Members.{MethodAt}
use Rattle.jn_base.specs.Atoms.{atom_of}
use Rattle.jn_base.specs.Scopes.{bound}
use Rattle.jn_table.specs.Rows.{HasMethod}
use Rattle.jn_table.specs.Tables.{IsFilled}
use Rattle.jn_code.specs.declared.instr.Instr.TheVariants as ins
use Rattle.jn_agree.specs.Naming.{Naming}
use Rattle.jn_agree.specs.Places.{dropping}
use Rattle.jn_lower.specs.declared.cursor.Marks.{Marks}
use Rattle.jn_lower.specs.declared.emitter.Emitter.{Emitter}
use Rattle.jn_lower.specs.declared.members.Callee.{Callee}
use Rattle.jn_lower.specs.declared.walk.Parts.{Parts}
use Rattle.jn_lower.specs.declared.walk.Walk.{Walk}
use Rattle.jn_lower.specs.declared.walk_super.Above.{Above}
use Rattle.jn_lower.specs.Cursors.{TermTaken, MemberTaken}
use Rattle.jn_lower.specs.Emitted.{Adds}
use Rattle.jn_lower.specs.Called.{Tucks}
use Rattle.jn_lower.specs.Classes.{AreClassesOf, AddsClass}
use Rattle.jn_lower.specs.Selecting.{IsCtorOf, made_by}
use Rattle.jn_lower.specs.Told.{IsCallee, MakesBy}
use Rattle.jn_lower.specs.Known.{scope_in}
use Rattle.jn_lower.specs.Walks.{Had, Settled}

-- ---- bounds

-- the bound of an atom where these variables are in scope
abbrev pub bound_in : Parts → ShownAtom → Path
bound_in g x = bound (scope_in g.class.now g.vars.now) (atom_of x)

-- ---- new objects

-- C is the last name of the atom
abbrev pub IsLast : ShownAtom → Name → Type 0
IsLast x C = (P : Path) × ((atom_of x).names ++ (atom_of x).exact ≡ C ∷ P)

-- the class of the atom has a constructor
abbrev pub Constructs : Parts → ShownAtom → Name → Type 0
Constructs g x C = IsFilled g.p.now g.t.now → HasMethod g.p.now (bound_in g x) C

-- or has none
abbrev pub ConstructsNot : Parts → ShownAtom → Name → Type 0
ConstructsNot g x C = IsFilled g.p.now g.t.now → HasMethod g.p.now (bound_in g x) C → ⊥

-- whether it has one
pub record SaysConstructs (g : Parts) (x : ShownAtom) (C : Name) (told : Bool) : Type 0 where
  pub yes : told ≡ true → Constructs g x C
  pub no : told ≡ false → ConstructsNot g x C

-- the constructor that the marked class declares, with so many parameters
pub record ByMark (g : Parts) (x : ShownAtom) (C : Name) (count : ℕ) (ctor : Option ℕ) (old new : Walk) : Type 0 where
  pub path : ShownPath
  pub callee : Callee
  pub taken : MemberTaken path old.marks new.marks
  pub is : (m : Method) → MethodAt g.p.now (reverse path.names) C m → MakesBy g.names.now.methods C m callee
  pub many : length callee.params.items ≡ count
  pub selector : ctor ≡ Some callee.selector
  pub out : new.out ≡ old.out

-- The constructor by which an object of the atom's class is made from so many arguments: where there are some, or the
-- class has a constructor, that of the mark. Else none is of the class, and it is whichever constructor without parameters
-- some class of the name has.
pub data MadeWith (g : Parts) (x : ShownAtom) (C : Name) (count : ℕ) (ctor : Option ℕ) (old new : Walk) : Type 0 where
  by : (count ≡ 0 → Constructs g x C) → ByMark g x C count ctor old new → MadeWith g x C count ctor old new
  without : count ≡ 0 → ConstructsNot g x C → new ≡ old
      → ((n : Naming) → n.methods ≡ g.names.now.methods → IsCtorOf n (atom_of x) [] ctor)
      → MadeWith g x C count ctor old new

pub record MadeBy (g : Parts) (x : ShownAtom) (count : ℕ) (ctor : Option ℕ) (old new : Walk) : Type 0 where
  pub name : Name
  pub last : IsLast x name
  pub with : MadeWith g x name count ctor old new

-- Behind the arguments: the class of the atom, NEW, the constructor, and the kind of the object.
pub record MadeOf (g : Parts) (x : ShownAtom) (ctor : Option ℕ) (keeps : Bool) (old new : Walk) : Type 0 where
  pub at : Emitter
  pub mid : Walk
  pub class : (n : Naming) → AreClassesOf g.t.now n → AddsClass n (atom_of x) old.out at
  pub made : Adds (ins.New ∷ (made_by ctor ++ dropping keeps 3)) at mid.out
  pub marks : mid.marks ≡ old.marks
  pub had : Had mid new

-- ---- super

-- The method of that name with so many parameters that is called at the class of the marked atom: the number of the
-- class and of the selector, the kind of the result and of the first parameter.
pub record AboveFound (g : Parts) (f : Name) (count : ℕ) (x : Above) (old new : Walk) : Type 0 where
  pub atom : ShownAtom
  pub path : ShownPath
  pub callee : Callee
  pub mid : Marks
  pub term : TermTaken atom old.marks mid
  pub member : MemberTaken path mid new.marks
  pub out : new.out ≡ old.out
  pub class : (n : Naming) → AreClassesOf g.t.now n → slice_get n.classes x.class ≡ Some (bound_in g atom)
  pub is : (m : Method) → MethodAt g.p.now (reverse path.names) f m → IsCallee g.names.now.methods f m callee
  pub many : length callee.params.items ≡ count
  pub selector : x.selector ≡ callee.selector
  pub kind : x.kind ≡ callee.kind
  pub first : (k : ℕ) (ks : List ℕ) → callee.params.items ≡ k ∷ ks → x.first ≡ k

-- `this` is brought below the first argument
pub record TuckedFor (x : Above) (old new : Walk) : Type 0 where
  pub tucks : Tucks x.first old.out new.out
  pub marks : new.marks ≡ old.marks

-- the method is called at the class, and its value is had
pub record AboveCalled (x : Above) (keeps : Bool) (old new : Walk) : Type 0 where
  pub mid : Walk
  pub adds : Adds (ins.Cls x.class ∷ ins.Callat x.selector ∷ dropping keeps x.kind) old.out mid.out
  pub marks : mid.marks ≡ old.marks
  pub settled : Settled x.kind mid new

-- the same on `this`, without arguments
pub record BareCalled (x : Above) (keeps : Bool) (old new : Walk) : Type 0 where
  pub mid : Walk
  pub adds : Adds (ins.Load 0 ∷ ins.Cls x.class ∷ ins.Callat x.selector ∷ dropping keeps x.kind) old.out mid.out
  pub marks : mid.marks ≡ old.marks
  pub settled : Settled x.kind mid new

-- Example: where the class a.C alone has a constructor, `new a.C()` takes the mark of a.C; `new a.D()` takes none.
