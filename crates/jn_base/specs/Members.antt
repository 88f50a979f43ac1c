-- Home, kinds, methods and fields of a class.
use Rattle.std.specs.Prelude.{◌≡◌, ◌<◌, ℕ, [], ◌∷◌, drop, Contains}
use Rattle.jn_base.specs.declared.tree.Name.{Name}
use Rattle.jn_base.specs.declared.tree.Place.{Place}
use Rattle.jn_base.specs.declared.tree.Kind.{Kind}
use Rattle.jn_base.specs.declared.tree.Kind.TheVariants as kind
use Rattle.jn_base.specs.declared.tree.Program.{Program}
use Rattle.jn_base.specs.declared.tree.Decl.{Decl}
use Rattle.jn_base.specs.declared.tree.Field.{Field}
use Rattle.jn_base.specs.declared.tree.Method.{Method}
use Rattle.jn_base.specs.Paths.{Path, StandsAt, Declared, fields, methods}
use Rattle.jn_base.specs.Supers.{Sup}

-- Home(R) is the place of the name in the declaration of the longest declared prefix of R.
-- The prefix is R without its last `off` names.
pub record IsHome (p : Program) (R : Path) (at : Place) : Type 0 where
  pub off : ℕ
  pub decl : Decl
  pub stands : StandsAt p (drop off R) decl
  pub longest : (k : ℕ) → k < off → Declared p (drop k R) → ⊥
  pub is : at ≡ decl.name.at

-- some declaration at a path in Sup(R) has this kind
pub record HasKind (p : Program) (R : Path) (k : Kind) : Type 0 where
  pub at : Path
  pub super : Sup p R at
  pub decl : Decl
  pub stands : StandsAt p at decl
  pub is : decl.kind ≡ k

-- R is refused where its Sup has both kinds
abbrev pub HasTwoKinds : Program → Path → Type 0
HasTwoKinds p R = HasKind p R kind.Class × HasKind p R kind.Package

-- a declaration at Q has this method, of the name m
pub record MethodAt (p : Program) (Q : Path) (m : Name) (method : Method) : Type 0 where
  pub decl : Decl
  pub stands : StandsAt p Q decl
  pub has : Contains (methods decl.members) method
  pub name : method.name.name ≡ m

-- Q is in Decls(R, m): a path in Sup(R) whose declaration has a method m
pub record Decls (p : Program) (R : Path) (m : Name) (Q : Path) : Type 0 where
  pub super : Sup p R Q
  pub method : Method
  pub at : MethodAt p Q m method

-- Q is Least(R, m): the member of Decls(R, m) that has all others in its Sup
pub record Least (p : Program) (R : Path) (m : Name) (Q : Path) : Type 0 where
  pub among : Decls p R m Q
  pub below : (S : Path) → Decls p R m S → Sup p Q S

-- a declaration at Q has this field, of the name f
pub record FieldAt (p : Program) (Q : Path) (f : Name) (field : Field) : Type 0 where
  pub decl : Decl
  pub stands : StandsAt p Q decl
  pub has : Contains (fields decl.members) field
  pub name : field.name.name ≡ f

-- Q is a path in Sup(R) whose declaration has a field f
pub record FieldDecls (p : Program) (R : Path) (f : Name) (Q : Path) : Type 0 where
  pub super : Sup p R Q
  pub field : Field
  pub at : FieldAt p Q f field

-- Q is Field(R, f): the one path in Sup(R) that declares f
pub record IsField (p : Program) (R : Path) (f : Name) (Q : Path) : Type 0 where
  pub declares : FieldDecls p R f Q
  pub only : (S : Path) → FieldDecls p R f S → S ≡ Q

-- Q has the constructor of R: the method of R that bears the last name of R
abbrev pub IsConstructor : Program → Path → Path → Type 0
IsConstructor p [] Q = ⊥
IsConstructor p (C ∷ P) Q = Least p (C ∷ P) C Q
