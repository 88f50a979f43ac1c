-- How a verdict is said: a plan is what has to be asked, in order, and what is answered by the replies.
--
-- A plan is made by a function, as a fold over a tree. What is asked is a relation. So the order of the rules stands in the
-- plan, and what a rule is about stands in what a question means (Questions).
use Rattle.std.specs.Prelude.{ℕ, List, [], ◌∷◌, Bool, true, false, Option, Some, None, Result, Ok, Err}
use Rattle.jn_base.specs.declared.tree.Name.{Name}
use Rattle.jn_base.specs.declared.tree.Constraint.{Constraint}
use Rattle.jn_base.specs.declared.tree.Term.{Term}
use Rattle.jn_base.specs.declared.tree.TypeTerm.{TypeTerm}
use Rattle.jn_base.specs.declared.tree.ViewTerm.{ViewTerm}
use Rattle.jn_base.specs.declared.types.Atom.{Atom as ShownAtom}
use Rattle.jn_base.specs.declared.types.Masks.{Masks}
use Rattle.jn_base.specs.declared.types.Ty.{Ty}
use Rattle.jn_base.specs.declared.types.Ty.TheVariants as ty
use Rattle.jn_base.specs.declared.types.ValKind.{ValKind}
use Rattle.jn_base.specs.declared.names.Role.{Role}
use Rattle.jn_base.specs.declared.refusal.Refusal.{Refusal}
use Rattle.jn_base.specs.Paths.{Path}
use Rattle.jn_base.specs.Scopes.{Scope}
use Rattle.jn_sem.specs.NotFamily.{Listed}
use Rattle.jn_sem.specs.Terms.{Site}
use Rattle.jn_sem.specs.Does.{Body}

-- ---- what replies have

-- a field that was found: the class that declares it, and its type there, with `this` for the receiver
pub record FoundField : Type 0 where
  pub class : Path
  pub ty : Ty

-- the target of a view, or a side of a sharing constraint: one atom, as it is resolved, with masks
pub record Target : Type 0 where
  pub atom : ShownAtom
  pub masks : Masks

abbrev pub target_type : Target → Ty
target_type x = ty.Class (x.atom ∷ []) x.masks

-- a sharing constraint `from -> to`
pub record Pledge : Type 0 where
  pub from : Target
  pub to : Target

-- whether a sharing holds; else the class that refutes it, and the field where there is one
pub data Sharing : Type 0 where
  Holding : Sharing
  Refuted : (class : Path) (field : Option Name) → Sharing

-- ---- the questions

pub data Query : Type 0 where
  -- What the term of a `new` or `super` stands for; a written type; the target of a view; the type of a field, which stands
  -- in the declaration at the path; a constraint in the header of a method there.
  OfTerm : Role → Site → Term → Query
  OfType : Site → TypeTerm → Query
  OfView : Site → ViewTerm → Query
  OfFieldType : Path → (field : Name) → TypeTerm → Query
  OfConstraint : Path → (method : Name) → Constraint → Query
  -- whether the first type is below the second
  IsBelow : Scope → Ty → Ty → Query
  -- the field, and the body of the method, that a value of the type has
  OfField : Scope → Ty → (field : Name) → Query
  OfMethod : Scope → Ty → (method : Name) → Query
  -- the least body of a method at a class, and of its constructor
  OfBody : Path → (method : Name) → Query
  OfConstructor : Path → Query
  -- the first mask by name; whether a field is masked; the masks without a field's; the masks of both
  FirstMask : Masks → Query
  IsMasked : Masks → (field : Name) → Query
  WithoutMask : Masks → (field : Name) → Query
  EitherMasks : Masks → Masks → Query
  -- whether a constraint of a header grants a view change from the type to the target
  Grants : Scope → Pledge → (from : Ty) → (to : Target) → Query
  -- whether all classes of the type are shared with the target
  OfSharing : Scope → (from : Ty) → (to : Target) → Query
  -- whether a name is a top-level name; whether a listed name lacks what a family in its list must have
  IsTop : Name → Query
  LacksFamily : Listed → Query

abbrev pub Reply : Query → Type 0
Reply (OfTerm r at t) = Result ShownAtom Refusal
Reply (OfType at t) = Result Ty Refusal
Reply (OfView at v) = Result Target Refusal
Reply (OfFieldType Q f t) = Result Ty Refusal
Reply (OfConstraint Q m c) = Result Pledge Refusal
Reply (IsBelow s t u) = Bool
Reply (OfField s t f) = Option FoundField
Reply (OfMethod s t m) = Option Body
Reply (OfBody B m) = Option Body
Reply (OfConstructor B) = Option Body
Reply (FirstMask m) = Option Name
Reply (IsMasked m f) = Bool
Reply (WithoutMask m f) = Masks
Reply (EitherMasks m n) = Masks
Reply (Grants s c t u) = Bool
Reply (OfSharing s t u) = Sharing
Reply (IsTop n) = Bool
Reply (LacksFamily n) = Bool

-- ---- plans

-- What is noted on the way: the atom that a term stands for, the number of a variable, the class that declares a field or a
-- method, the kind of a value.
pub data Mark : Type 0 where
  AtomMark : ShownAtom → Mark
  VarMark : ℕ → Mark
  MemberMark : Path → Mark
  KindMark : ValKind → Mark

-- A plan: an answer; a refusal; a mark, and how to go on; a question, and how to go on by its reply.
pub data Plan (A : Type 0) : Type 0 where
  done : A → Plan A
  refuse : Refusal → Plan A
  note : Mark → Plan A → Plan A
  ask : (q : Query) → (Reply q → Plan A) → Plan A

-- one plan after the other; a refusal of the first is that of both
abbrev pub then_do : {A B : Type 0} → Plan A → (A → Plan B) → Plan B
then_do (done a) go = go a
then_do (refuse r) go = refuse r
then_do (note m next) go = note m (then_do next go)
then_do (ask q next) go = ask q (λ x. then_do (next x) go)

-- refused unless the test holds
abbrev pub wants : {A : Type 0} → Bool → Refusal → Plan A → Plan A
wants true r go = go
wants false r go = refuse r

-- what was resolved, or its refusal
abbrev pub taken : {A B : Type 0} → (A → Plan B) → Result A Refusal → Plan B
taken go (Ok a) = go a
taken go (Err r) = refuse r

-- what was found, or a refusal
abbrev pub found_or : {A B : Type 0} → Refusal → (A → Plan B) → Option A → Plan B
found_or r go (Some a) = go a
found_or r go None = refuse r

abbrev pub note_all : {A : Type 0} → List Mark → Plan A → Plan A
note_all [] go = go
note_all (m ∷ ms) go = note m (note_all ms go)

-- one plan after the other, each for its refusal alone
abbrev pub Nothing : Type 0
Nothing = Unit {0}

abbrev pub in_turn : List (Plan Nothing) → Plan Nothing
in_turn [] = done tt
in_turn (x ∷ xs) = then_do x (λ u. in_turn xs)
