-- What is refused of the members of classes: methods, fields, constructors; too many entries or slots; constraints.
use Rattle.std.specs.Prelude.{◌≡◌, ◌<◌, ℕ, List, [], ◌∷◌, length, map, Contains, slice_get, Bool, Some, None, Ok}
use Rattle.jn_base.specs.declared.tree.Name.{Name}
use Rattle.jn_base.specs.declared.tree.Place.{Place}
use Rattle.jn_base.specs.declared.tree.Constraint.{Constraint}
use Rattle.jn_base.specs.declared.tree.Program.{Program}
use Rattle.jn_base.specs.declared.types.Ty.{Ty}
use Rattle.jn_base.specs.declared.types.Ty.TheVariants as ty
use Rattle.jn_base.specs.declared.names.Var.{Var}
use Rattle.jn_base.specs.declared.refusal.Refusal.{Refusal}
use Rattle.jn_base.specs.declared.refusal.Rule.{Rule}
use Rattle.jn_base.specs.declared.refusal.Rule.TheVariants as rule
use Rattle.jn_base.specs.declared.refusal.Limit.{Limit}
use Rattle.jn_base.specs.Paths.{Path, shown}
use Rattle.jn_base.specs.Supers.{Sup, Member as IsMember}
use Rattle.jn_base.specs.Universe.{InUniverse}
use Rattle.jn_base.specs.Members.{IsHome, MethodAt, Least, FieldDecls}
use Rattle.jn_base.specs.Atoms.{atom_of}
use Rattle.jn_sem.specs.Values.{HasField}
use Rattle.jn_sem.specs.Sharing.{IsClass, Related}
use Rattle.jn_sem.specs.Slots.{SlotOfGroup}
use Rattle.jn_sem.specs.Holds.{HoldsAt, IsFirstName}
use Rattle.jn_sem.specs.Does.{Body, IsBody, IsConstructorBody}
use Rattle.jn_rules.specs.Plans.{Pledge}
use Rattle.jn_rules.specs.Questions.{Gives, HasMethod, header_site, ConstraintGives, sides}
use Rattle.jn_rules.specs.Headers.{Header, header_typed}

-- at a place, with the class and the member
abbrev pub of_member : Rule → Path → Place → Name → Refusal
of_member rule R at m = record { rule = rule; at = at; class = Some (shown R); member = Some m; limit = None }

-- ---- signatures

-- What has to be the same: count, `final` and normal types of the parameters, matched by place, and the result.
pub record Signature : Type 0 where
  pub fixed : List Bool
  pub types : List Ty
  pub result : Ty

abbrev pub var_fixed : Var → Bool
var_fixed v = v.fixed

abbrev pub var_type : Var → Ty
var_type v = v.ty

abbrev pub signature : Header → Signature
signature x = record { fixed = map var_fixed x.vars; types = map var_type x.vars; result = x.result }

-- the body b has this signature
pub record HasSignature (p : Program) (b : Body) (s : Signature) : Type 0 where
  pub header : Header
  pub is : Gives p (header_typed b) (Ok header)
  pub signature : s ≡ signature header

-- the bodies have one signature
pub record SameSignature (p : Program) (b c : Body) : Type 0 where
  pub signature : Signature
  pub one : HasSignature p b signature
  pub other : HasSignature p c signature

-- ---- methods

-- a body of m in Sup(R)
pub record IsBodyIn (p : Program) (R : Path) (m : Name) (b : Body) : Type 0 where
  pub super : Sup p R b.class
  pub at : MethodAt p b.class m b.method

-- A method name of R is bad where there is no least body, or some body's signature is another than the least one's.
pub data BadMethod (p : Program) (R : Path) (m : Name) : Type 0 where
  no_least : HasMethod p m R → ((Q : Path) → Least p R m Q → ⊥) → BadMethod p R m
  other_signature : (b c : Body) → IsBody p R m b → IsBodyIn p R m c → (SameSignature p b c → ⊥) → BadMethod p R m

-- The first is E09 at Home of R, the second E11 at the least body's name.
pub data MethodRefused (p : Program) (R : Path) (m : Name) (r : Refusal) : Type 0 where
  conflict : (at : Place) → HasMethod p m R → ((Q : Path) → Least p R m Q → ⊥) → IsHome p R at
      → r ≡ of_member rule.E09 R at m → MethodRefused p R m r
  override : (b c : Body) → IsBody p R m b → IsBodyIn p R m c → (SameSignature p b c → ⊥)
      → r ≡ of_member rule.E11 R b.method.name.at m → MethodRefused p R m r

-- ---- fields

-- a field name of R is bad where it has two declarations
pub record BadField (p : Program) (R : Path) (f : Name) : Type 0 where
  pub one : Path
  pub other : Path
  pub at_one : FieldDecls p R f one
  pub at_other : FieldDecls p R f other
  pub apart : one ≡ other → ⊥

-- ---- constructors

-- no parameters and no result
abbrev pub empty_signature : Signature
empty_signature = record { fixed = []; types = []; result = ty.Void }

-- the signature of the constructor of R; a missing one has no parameters and the result void
pub data ConstructorSignature (p : Program) (R : Path) (s : Signature) : Type 0 where
  declared : (b : Body) → IsConstructorBody p R b → HasSignature p b s → ConstructorSignature p R s
  missing_one : ((b : Body) → IsConstructorBody p R b → ⊥) → s ≡ empty_signature → ConstructorSignature p R s

-- The result is void, and each strict super with the same last name has the same signature of its constructor.
pub record ConstructorPasses (p : Program) (C : Name) (P : Path) : Type 0 where
  pub signature : Signature
  pub is : ConstructorSignature p (C ∷ P) signature
  pub void : signature.result ≡ ty.Void
  pub supers : (Q : Path) → Sup p (C ∷ P) (C ∷ Q) → ConstructorSignature p (C ∷ Q) signature

-- E11 at the least body's name, or at Home where there is none
pub data ConstructorRefused (p : Program) (C : Name) (P : Path) (r : Refusal) : Type 0 where
  at_body : (b : Body) → (ConstructorPasses p C P → ⊥) → IsConstructorBody p (C ∷ P) b
      → r ≡ of_member rule.E11 (C ∷ P) b.method.name.at C → ConstructorRefused p C P r
  at_home : (at : Place) → (ConstructorPasses p C P → ⊥) → ((b : Body) → IsConstructorBody p (C ∷ P) b → ⊥)
      → IsHome p (C ∷ P) at
      → r ≡ of_member rule.E11 (C ∷ P) at C → ConstructorRefused p C P r

-- ---- a class

abbrev pub NoName : (Name → Type 0) → Type 0
NoName T = (m : Name) → T m → ⊥

-- a class with a bad method name, a bad field name, or a constructor that doesn't pass
pub data HasBad (p : Program) : Path → Type 0 where
  bad_method : {R : Path} (m : Name) → BadMethod p R m → HasBad p R
  bad_field : {R : Path} (f : Name) → BadField p R f → HasBad p R
  bad_constructor : {C : Name} {P : Path} → (ConstructorPasses p C P → ⊥) → HasBad p (C ∷ P)

pub record BadClass (p : Program) (R : Path) : Type 0 where
  pub class : IsClass p R
  pub bad : HasBad p R

-- What is answered of it is the first of these: its method names, by bytes; its field names, by bytes, with E10 at
-- Home; its constructor.
pub data ClassRefused (p : Program) : Path → Refusal → Type 0 where
  method : {R : Path} {r : Refusal} (m : Name) → IsFirstName p (BadMethod p R) m → MethodRefused p R m r
      → ClassRefused p R r
  field : {R : Path} (f : Name) (at : Place) → NoName (BadMethod p R) → IsFirstName p (BadField p R) f → IsHome p R at
      → ClassRefused p R (of_member rule.E10 R at f)
  constructor : {C : Name} {P : Path} {r : Refusal} → NoName (BadMethod p (C ∷ P)) → NoName (BadField p (C ∷ P))
      → ConstructorRefused p C P r → ClassRefused p (C ∷ P) r

-- ---- entries and slots

-- more than n different things are so
pub record MoreThan {A : Type 0} (n : ℕ) (Is : A → Type 0) : Type 0 where
  pub list : List A
  pub each : (a : A) → Contains list a → Is a
  pub once : (i j : ℕ) (a : A) → slice_get list i ≡ Some a → slice_get list j ≡ Some a → i ≡ j
  pub more : n < length list

-- of each path of the universe: its members, its method names, its field names, its counterparts in other families
pub data Entry : Type 0 where
  of_member_name : Path → Name → Entry
  of_method_name : Path → Name → Entry
  of_field_name : Path → Name → Entry
  of_counterpart : Path → Path → Entry

pub data IsEntry (p : Program) : Entry → Type 0 where
  member : (R : Path) (C : Name) → InUniverse p R → IsMember p R C → IsEntry p (of_member_name R C)
  method : (R : Path) (m : Name) → InUniverse p R → HasMethod p m R → IsEntry p (of_method_name R m)
  field : (R : Path) (f : Name) → InUniverse p R → HasField p R f → IsEntry p (of_field_name R f)
  counterpart : (R S : Path) → Related p R S → (R ≡ S → ⊥) → IsEntry p (of_counterpart R S)

abbrev pub MOST_ENTRIES : ℕ
MOST_ENTRIES = 1_048_576

-- more than 1,048,576 entries
abbrev pub TooManyEntries : Program → Type 0
TooManyEntries p = MoreThan MOST_ENTRIES (IsEntry p)

abbrev pub MOST_SLOTS : ℕ
MOST_SLOTS = 250

-- a class whose group has too many slots
pub record TooManySlots (p : Program) (V : Path) : Type 0 where
  pub class : IsClass p V
  pub more : MoreThan MOST_SLOTS (SlotOfGroup p V)

abbrev pub over_limit : Limit → Place → Refusal
over_limit l at = record { rule = rule.E04; at = at; class = None; member = None; limit = Some l }

-- ---- constraints

-- a constraint of the least body of m at R that doesn't hold with `this` at R
pub record SharingFails (p : Program) (R : Path) (m : Name) (b : Body) : Type 0 where
  pub class : IsClass p R
  pub body : IsBody p R m b
  pub constraint : Constraint
  pub among : Contains b.method.sharing constraint
  pub pledge : Pledge
  pub is : ConstraintGives p (header_site b.class b.method.name.name) constraint (Ok pledge)
  pub fails : HoldsAt p R (sides p (atom_of pledge.from.atom ∷ []) pledge.from.masks pledge.to) → ⊥

-- some constraint of m fails at R
abbrev pub FailsFor : Program → Path → Name → Type 0
FailsFor p R m = (b : Body) × SharingFails p R m b

-- some constraint of a method fails at R
abbrev pub FailsAt : Program → Path → Type 0
FailsAt p R = (m : Name) × FailsFor p R m

-- Examples (jn_rule_rows): d with `extends b & c`, which both override n, has no least n: E09 at the name of d. A class
-- that has `boolean m()` where its super has `int m()` is E11 at its own m.
