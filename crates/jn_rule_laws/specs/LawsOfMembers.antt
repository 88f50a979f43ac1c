-- Fields, methods and constructors of classes and of their heirs, where nothing is refused of headers and members.
use Rattle.std.specs.Prelude.{◌≡◌, List, [], ◌∷◌}
use Rattle.jn_base.specs.declared.tree.Name.{Name}
use Rattle.jn_base.specs.declared.tree.Program.{Program}
use Rattle.jn_base.specs.declared.types.Ty.{Ty}
use Rattle.jn_base.specs.declared.types.Ty.TheVariants as ty
use Rattle.jn_base.specs.declared.names.Var.{Var}
use Rattle.jn_base.specs.Paths.{Path}
use Rattle.jn_base.specs.Supers.{Sup}
use Rattle.jn_base.specs.Duplicates.{duplicates}
use Rattle.jn_base.specs.ProgramNames.{IsNamed}
use Rattle.jn_base.specs.Scopes.{Scope}
use Rattle.jn_base.specs.Fits.{BindsFit}
use Rattle.jn_sem.specs.Sets.{Views, InType, Respects}
use Rattle.jn_sem.specs.Values.{HasField}
use Rattle.jn_sem.specs.Sharing.{IsClass}
use Rattle.jn_sem.specs.Slots.{FieldType}
use Rattle.jn_sem.specs.LawsOfSlots.{OnePlaceEach}
use Rattle.jn_sem.specs.State.{Stored}
use Rattle.jn_sem.specs.Does.{Body, IsBody, IsConstructorBody, AreFresh}
use Rattle.jn_laws.specs.Surely.{Surely}
use Rattle.jn_laws.specs.LawsOfSources.{WellFormed}
use Rattle.jn_rules.specs.Plans.{FoundField}
use Rattle.jn_rules.specs.Questions.{IsFoundField, IsMethodOf, HasMethod}
use Rattle.jn_rules.specs.Headers.{Header}
use Rattle.jn_rules.specs.Verdict.{MembersPass}
use Rattle.jn_rule_laws.specs.LawsOfHeaders.{IsHeader}

-- ---- what is found by a type

-- A class in the type of a receiver has in its Sup the bound at which the member was found.
pub record FoundUnder (p : Program) (s : Scope) (v : Views) (t : Ty) (V : Path) : Type 0 where
  pub field : (f : Name) (x : FoundField) (i : IsFoundField p s t f x) → Sup p V i.bound
  pub method : (m : Name) (b : Body) (i : IsMethodOf p s t m b) → Sup p V i.bound

abbrev pub MembersUnderBounds : Type 0
MembersUnderBounds = (p : Program) (s : Scope) (v : Views) (t : Ty) (V : Path) → BindsFit s → Respects p v s → InType p v t V → FoundUnder p s v t V

-- ---- fields

pub record FieldsOf (p : Program) : Type 0 where
  -- a field has one declaration, its type at a class is that at each super that has it, and there is one
  pub one_place : OnePlaceEach p
  pub inherited : (V B : Path) (f : Name) (t : Ty) → IsClass p V → Sup p V B → FieldType p B f t → FieldType p V f t
  pub there : (V : Path) (f : Name) → IsClass p V → HasField p V f → (t : Ty) × FieldType p V f t
  -- a new object of the class surely has values for its slots
  pub fresh : WellFormed p → IsNamed p → (V : Path) → IsClass p V → Surely ((xs : List Stored) × AreFresh p V xs)

abbrev pub FieldsAreOne : Type 0
FieldsAreOne = (p : Program) → MembersPass p → FieldsOf p

-- ---- signatures

-- parameters by place: of one type, alike `final`, and of one path (their names may differ)
pub data Alike : List Var → List Var → Type 0 where
  none : Alike [] []
  one : {x y : Var} {xs ys : List Var} → x.ty ≡ y.ty → x.fixed ≡ y.fixed → x.path ≡ y.path → Alike xs ys → Alike (x ∷ xs) (y ∷ ys)

-- a least body of the method at V, with a header like this one
pub record BodyAlike (p : Program) (V : Path) (m : Name) (c : Header) : Type 0 where
  pub body : Body
  pub header : Header
  pub is_body : IsBody p V m body
  pub is_header : IsHeader p body header
  pub same : Alike c.vars header.vars
  pub result : header.result ≡ c.result

pub record SignaturesOf (p : Program) : Type 0 where
  -- The least bodies of a method at a class and at a super of it have one signature.
  pub method : (V B : Path) (m : Name) (b : Body) (c : Header) → IsClass p V → Sup p V B → IsBody p B m b → IsHeader p b c → Surely (BodyAlike p V m c)
  -- a class that has a method surely has a least body of it
  pub least : (V : Path) (m : Name) → IsClass p V → HasMethod p m V → Surely ((b : Body) × IsBody p V m b)
  -- The result of a constructor is void; and where a strict super with the same last name has none, it has no parameters.
  pub void : (V : Path) (b : Body) (c : Header) → IsClass p V → IsConstructorBody p V b → IsHeader p b c → c.result ≡ ty.Void
  pub bare : (C : Name) (P Q : Path) (b : Body) (c : Header) → IsClass p (C ∷ P) → Sup p (C ∷ P) (C ∷ Q)
      → ((d : Body) → IsConstructorBody p (C ∷ Q) d → ⊥) → IsConstructorBody p (C ∷ P) b → IsHeader p b c → c.vars ≡ []

abbrev pub Signatures : Type 0
Signatures = (p : Program) → duplicates p ≡ [] → MembersPass p → SignaturesOf p
