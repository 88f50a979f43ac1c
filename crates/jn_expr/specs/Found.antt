-- What the searches for members give.
use Rattle.std.specs.Prelude.{◌≡◌, List, [], ◌∷◌, Contains, Option, Some, None}
use Rattle.jn_base.specs.declared.tree.Name.{Name}
use Rattle.jn_base.specs.declared.tree.Method.{Method}
use Rattle.jn_base.specs.declared.tree.Field.{Field}
use Rattle.jn_base.specs.declared.tree.Program.{Program}
use Rattle.jn_base.specs.Paths.{Path}
use Rattle.jn_base.specs.Members.{MethodAt, FieldAt, Least, IsField}
use Rattle.jn_base.specs.declared.types.Ty.{Ty}
use Rattle.jn_base.specs.Atoms.{Atom}
use Rattle.jn_base.specs.Scopes.{Scope}
use Rattle.jn_sem.specs.Terms.{FieldTypeIs}
use Rattle.jn_rules.specs.Plans.{FoundField}
use Rattle.jn_rules.specs.Questions.{FirstWith, HasMethod, HasFieldAt}
use Rattle.jn_expr.specs.declared.members.Declared.{Declared}

-- one of the list of this name, or none where it has none
abbrev pub FindsNamed : {A : Type 0} → (A → Name) → List A → Name → Option A → Type 0
FindsNamed name_of xs n (Some x) = Contains xs x × (name_of x ≡ n)
FindsNamed {A} name_of xs n None = (x : A) → Contains xs x → name_of x ≡ n → ⊥

abbrev pub method_name : Method → Name
method_name m = m.name.name

abbrev pub field_name : Field → Name
field_name f = f.name.name

-- the method of the declaration at Q, or none where it has none
abbrev pub MethodIs : Program → Path → Name → Option Method → Type 0
MethodIs p Q m (Some x) = MethodAt p Q m x
MethodIs p Q m None = (x : Method) → MethodAt p Q m x → ⊥

abbrev pub FieldIs : Program → Path → Name → Option Field → Type 0
FieldIs p Q f (Some x) = FieldAt p Q f x
FieldIs p Q f None = (x : Field) → FieldAt p Q f x → ⊥

-- the class that declares the least body of the method at B, or none where B has no body of it
abbrev pub LeastAt : Program → Path → Name → Option Path → Type 0
LeastAt p B m (Some Q) = Least p B m Q
LeastAt p B m None = HasMethod p m B → ⊥

-- the class that declares the field of B, or none where B has no such field
abbrev pub FieldFrom : Program → Path → Name → Option Path → Type 0
FieldFrom p B f (Some Q) = IsField p B f Q
FieldFrom p B f None = HasFieldAt p f B → ⊥

-- Q has the least body of the method at the bound of the first atom whose bound has the method
pub record MethodFound (p : Program) (s : Scope) (xs : List Atom) (m : Name) (Q : Path) : Type 0 where
  pub bound : Path
  pub at : FirstWith s (HasMethod p m) xs bound
  pub least : Least p bound m Q

-- that class, or none where no bound has it
abbrev pub MethodFirst : Program → Scope → List Atom → Name → Option Path → Type 0
MethodFirst p s xs m (Some Q) = MethodFound p s xs m Q
MethodFirst p s xs m None = (B : Path) → FirstWith s (HasMethod p m) xs B → ⊥

pub record FieldFound (p : Program) (s : Scope) (xs : List Atom) (f : Name) (Q : Path) : Type 0 where
  pub bound : Path
  pub at : FirstWith s (HasFieldAt p f) xs bound
  pub is : IsField p bound f Q

abbrev pub FieldFirst : Program → Scope → List Atom → Name → Option Path → Type 0
FieldFirst p s xs f (Some Q) = FieldFound p s xs f Q
FieldFirst p s xs f None = (B : Path) → FirstWith s (HasFieldAt p f) xs B → ⊥

-- a field with the class that declares it, as the rules have it
abbrev pub found_of : Declared → FoundField
found_of x = record { class = x.class; ty = x.ty }

abbrev pub found_in : Option Declared → Option FoundField
found_in None = None
found_in (Some x) = Some (found_of x)

-- the class that declares the least body of the constructor of B, or none where it has none
abbrev pub ConstructorFrom : Program → Path → Option Path → Type 0
ConstructorFrom p [] o = o ≡ None
ConstructorFrom p (C ∷ P) o = LeastAt p (C ∷ P) C o

-- the declaration at Q has the field, with this type
pub record IsDeclared (p : Program) (Q : Path) (f : Name) (t : Ty) : Type 0 where
  pub field : Field
  pub at : FieldAt p Q f field
  pub type : FieldTypeIs p Q f field.ty t
