-- What each question of a plan means, and what a plan gives.
use Rattle.std.specs.Prelude.{◌≡◌, ◌↔◌, ◌⊎◌, ℕ, List, [], ◌∷◌, slice_get, Bool, true, false, Option, Some, None, Result, Ok, Err}
use Rattle.std.specs.declared.cmp.Ordering.{Ordering}
use Rattle.std.specs.declared.cmp.Ordering.TheVariants.{Less}
use Rattle.std.specs.Ordering.{nat_cmp, on, then_cmp}
use Rattle.jn_base.specs.declared.tree.Name.{Name}
use Rattle.jn_base.specs.declared.tree.Constraint.{Constraint}
use Rattle.jn_base.specs.declared.tree.ViewTerm.{ViewTerm}
use Rattle.jn_base.specs.declared.tree.Program.{Program}
use Rattle.jn_base.specs.declared.types.Masks.{Masks}
use Rattle.jn_base.specs.declared.types.Ty.{Ty}
use Rattle.jn_base.specs.declared.types.Ty.TheVariants as ty
use Rattle.jn_base.specs.declared.names.Role.{Role}
use Rattle.jn_base.specs.declared.names.Role.TheVariants as role
use Rattle.jn_base.specs.declared.refusal.Refusal.{Refusal}
use Rattle.jn_base.specs.Paths.{Path}
use Rattle.jn_base.specs.Universe.{InUniverse}
use Rattle.jn_base.specs.ClassOrder.{name_cmp}
use Rattle.jn_base.specs.Members.{Decls}
use Rattle.jn_base.specs.Atoms.{Atom, atom_of, atoms_in, Among, HasMask, no_masks, MasksOf, MasksWithin}
use Rattle.jn_base.specs.Scopes.{Scope, bound}
use Rattle.jn_base.specs.Resolve.{Resolve}
use Rattle.jn_base.specs.ResolveTypes.{mask_names, ResolveType, ResolveView}
use Rattle.jn_sem.specs.Values.{HasField, Masked}
use Rattle.jn_sem.specs.Below.{Below}
use Rattle.jn_sem.specs.NormalFunction.{normal_type}
use Rattle.jn_sem.specs.RootClosure.{InClosure}
use Rattle.jn_sem.specs.Holds.{Sides, Holds, RefutedBy}
use Rattle.jn_sem.specs.Terms.{Site, spot_at, vars_at}
use Rattle.jn_sem.specs.Slots.{FieldType}
use Rattle.jn_sem.specs.NotFamily.{Lacks}
use Rattle.jn_sem.specs.Does.{Body, IsBody, IsConstructorBody}
use Rattle.jn_rules.specs.Plans.{FoundField, Target, target_type, Pledge, Sharing, Holding, Refuted, Query, OfTerm, OfType, OfView, OfFieldType, OfConstraint, IsBelow, OfField, OfMethod, OfBody, OfConstructor, FirstMask, IsMasked, WithoutMask, EitherMasks, Grants, OfSharing, IsTop, LacksFamily, Reply, Mark, Plan, done, refuse, note, ask}

-- ---- two kinds of reply

-- whether it is so
abbrev pub Answers : Type 0 → Bool → Type 0
Answers T true = T
Answers T false = T → ⊥

-- the thing that is so, or none where there is none
abbrev pub Finds : {A : Type 0} → (A → Type 0) → Option A → Type 0
Finds Is (Some a) = Is a
Finds {A} Is None = (a : A) → Is a → ⊥

-- ---- targets and constraints

abbrev pub as_type : Result Target Refusal → Result Ty Refusal
as_type (Ok x) = Ok (target_type x)
as_type (Err r) = Err r

-- what the target of a view stands for, or a side of a constraint
abbrev pub TargetIs : Program → Role → Site → ViewTerm → Result Target Refusal → Type 0
TargetIs p r at v x = ResolveView p (mask_names p) (spot_at at r) (vars_at at) v (as_type x)

-- in the header of a method no variable is in scope of a field's type or of a constraint
abbrev pub header_site : Path → Name → Site
header_site Q m = record { class = Q; method = m; vars = [] }

-- the left side of a constraint, and then the right side; or the first refusal
pub data ConstraintGives (p : Program) (at : Site) (c : Constraint) (o : Result Pledge Refusal) : Type 0 where
  left_refused : (r : Refusal) → TargetIs p role.From at c.from (Err r) → o ≡ Err r → ConstraintGives p at c o
  right_refused : (x : Target) (r : Refusal) → TargetIs p role.From at c.from (Ok x)
      → TargetIs p role.To at c.to (Err r)
      → o ≡ Err r → ConstraintGives p at c o
  both : (x y : Target) → TargetIs p role.From at c.from (Ok x) → TargetIs p role.To at c.to (Ok y)
      → o ≡ Ok (record { from = x; to = y }) → ConstraintGives p at c o

-- ---- members

-- B is the bound of the first atom whose bound has it
pub data FirstWith (s : Scope) (Has : Path → Type 0) : List Atom → Path → Type 0 where
  first : {x : Atom} {xs : List Atom} {B : Path} → B ≡ bound s x → Has B → FirstWith s Has (x ∷ xs) B
  later : {x : Atom} {xs : List Atom} {B : Path} → (Has (bound s x) → ⊥) → FirstWith s Has xs B
      → FirstWith s Has (x ∷ xs) B

-- some body of m is in Sup(B)
abbrev pub HasMethod : Program → Name → Path → Type 0
HasMethod p m B = (Q : Path) × Decls p B m Q

-- B has the field f
abbrev pub HasFieldAt : Program → Name → Path → Type 0
HasFieldAt p f B = HasField p B f

-- The field f of a value of the type t: that of the bound of the first atom whose bound has f.
pub record IsFoundField (p : Program) (s : Scope) (t : Ty) (f : Name) (x : FoundField) : Type 0 where
  pub bound : Path
  pub at : FirstWith s (HasFieldAt p f) (atoms_in t) bound
  pub type : FieldType p bound f x.ty
  pub class : x.class ≡ type.class

-- The body of the method m of a value of the type t: the least one at the bound of the first atom whose bound has m.
pub record IsMethodOf (p : Program) (s : Scope) (t : Ty) (m : Name) (b : Body) : Type 0 where
  pub bound : Path
  pub at : FirstWith s (HasMethod p m) (atoms_in t) bound
  pub body : IsBody p bound m b

-- ---- masks

abbrev pub name_number : Name → ℕ
name_number n = n.0

-- Masks are ordered by the bytes of their names; of two names with the same bytes, which no source has, the smaller
-- number comes first.
abbrev pub mask_cmp : Program → Name → Name → Ordering
mask_cmp p = then_cmp (name_cmp p) (on name_number nat_cmp)

-- f is the first of the masks
pub record IsFirstMask (p : Program) (m : Masks) (f : Name) : Type 0 where
  pub masked : Masked (mask_names p) m f
  pub first : (g : Name) → Masked (mask_names p) m g → mask_cmp p g f ≡ Less → ⊥

-- i is a mask of m of another name
abbrev pub KeptMask : List Name → Masks → Name → ℕ → Type 0
KeptMask names m f i = HasMask m i × (slice_get names i ≡ Some f → ⊥)

-- i is a mask of one of the two
abbrev pub InEither : Masks → Masks → ℕ → Type 0
InEither m n i = HasMask m i ⊎ HasMask n i

-- the masks of a class type; no other type has one
abbrev pub masks_of : Ty → Masks
masks_of (ty.Class xs m) = m
masks_of ty.Int = no_masks
masks_of ty.Bool = no_masks
masks_of ty.Null = no_masks
masks_of ty.Void = no_masks

-- ---- view changes

-- A constraint S0 -> T0 grants a view change from a type to T: the type is below S0, T0's atom equals T's in normal
-- form, and T0's masks are within T's.
pub record IsGrant (p : Program) (s : Scope) (c : Pledge) (from : Ty) (to : Target) : Type 0 where
  pub below : Below p s from (normal_type s (target_type c.from))
  pub atoms : atoms_in (normal_type s (target_type c.to)) ≡ atoms_in (normal_type s (target_type to))
  pub masks : MasksWithin c.to.masks to.masks

-- xs are the atoms of the root closure
pub record IsClosure (p : Program) (s : Scope) (t : Ty) (xs : List Atom) : Type 0 where
  pub exact : (z : Atom) → Among xs z ↔ InClosure p s (atoms_in t) z

-- what is asked by Holds: of these atoms with the masks of the type, and of the target with its own
abbrev pub sides : Program → List Atom → (hidden : Masks) → Target → Sides
sides p xs hidden to =
    record { names = mask_names p; from = xs; from_masks = hidden; to = atom_of to.atom; to_masks = to.masks }

-- Whether Holds is true of the root closure of the type and the target, with their masks; else what refutes it.
abbrev pub HoldsOr : Program → Sides → Sharing → Type 0
HoldsOr p c Holding = Holds p c
HoldsOr p c (Refuted U f) = RefutedBy p c U f

pub record SharingGives (p : Program) (s : Scope) (from : Ty) (to : Target) (o : Sharing) : Type 0 where
  pub closure : List Atom
  pub closes : IsClosure p s from closure
  pub gives : HoldsOr p (sides p closure (masks_of from) to) o

-- ---- the questions

abbrev pub Means : Program → (q : Query) → Reply q → Type 0
Means p (OfTerm r at t) x = Resolve p (spot_at at r) (vars_at at) t x
Means p (OfType at t) x = ResolveType p (mask_names p) (spot_at at role.Value) (vars_at at) t x
Means p (OfView at v) x = TargetIs p role.View at v x
Means p (OfFieldType Q f t) x =
    ResolveType p (mask_names p) (spot_at (header_site Q f) role.Field) (record { list = [] }) t x
Means p (OfConstraint Q m c) x = ConstraintGives p (header_site Q m) c x
Means p (IsBelow s t u) x = Answers (Below p s t u) x
Means p (OfField s t f) x = Finds (IsFoundField p s t f) x
Means p (OfMethod s t m) x = Finds (IsMethodOf p s t m) x
Means p (OfBody B m) x = Finds (IsBody p B m) x
Means p (OfConstructor B) x = Finds (IsConstructorBody p B) x
Means p (FirstMask m) x = Finds (IsFirstMask p m) x
Means p (IsMasked m f) x = Answers (Masked (mask_names p) m f) x
Means p (WithoutMask m f) x = MasksOf (KeptMask (mask_names p) m f) x
Means p (EitherMasks m n) x = MasksOf (InEither m n) x
Means p (Grants s c t u) x = Answers (IsGrant p s c t u) x
Means p (OfSharing s t u) x = SharingGives p s t u x
Means p (IsTop n) x = Answers (InUniverse p (n ∷ [])) x
Means p (LacksFamily n) x = Answers (Lacks p n) x

-- ---- what a plan gives

-- its answer or its refusal, by what each question means
abbrev pub Gives : {A : Type 0} → Program → Plan A → Result A Refusal → Type 0
Gives p (done a) o = o ≡ Ok a
Gives p (refuse r) o = o ≡ Err r
Gives p (note m go) o = Gives p go o
Gives p (ask q go) o = (x : Reply q) × Means p q x × Gives p (go x) o

-- the answer a, and what is noted on the way to it, in order
abbrev pub Notes : {A : Type 0} → Program → Plan A → List Mark → A → Type 0
Notes p (done a) ms b = (ms ≡ []) × (b ≡ a)
Notes p (refuse r) ms b = ⊥
Notes p (note m go) ms b = (ns : List Mark) × (ms ≡ m ∷ ns) × Notes p go ns b
Notes p (ask q go) ms b = (x : Reply q) × Means p q x × Notes p (go x) ms b

-- Examples: the field `v` of a value of the type `both.Lit` is declared by base.Lit. `base!.Exp -> Exp` in the header
-- of base.Make grants a view from `base!.Lit` to the `Exp` of the family of `this`, and not to `shower!.Exp`.
