-- What a type or a view stands for: its atoms with its masks, or the first refusal. The numbers of masks.
use Rattle.std.specs.Prelude.{◌≡◌, ℕ, Bool, true, false, not, List, [], ◌∷◌, ◌++◌, length, Contains, slice_get, Option, Some, None, Result, Ok, Err, ◌⊎◌}
use Rattle.jn_base.specs.declared.tree.Name.{Name}
use Rattle.jn_base.specs.declared.tree.Named.{Named}
use Rattle.jn_base.specs.declared.tree.Term.{Term}
use Rattle.jn_base.specs.declared.tree.TypeTerm.{TypeTerm}
use Rattle.jn_base.specs.declared.tree.TypeTerm.TheVariants as type
use Rattle.jn_base.specs.declared.tree.ViewTerm.{ViewTerm}
use Rattle.jn_base.specs.declared.tree.Program.{Program}
use Rattle.jn_base.specs.declared.types.Atom.{Atom as ShownAtom}
use Rattle.jn_base.specs.declared.types.Masks.{Masks}
use Rattle.jn_base.specs.declared.types.Ty.{Ty}
use Rattle.jn_base.specs.declared.types.Ty.TheVariants as ty
use Rattle.jn_base.specs.declared.names.Role.{Role}
use Rattle.jn_base.specs.declared.names.Role.TheVariants as role
use Rattle.jn_base.specs.declared.names.Spot.{Spot}
use Rattle.jn_base.specs.declared.names.Vars.{Vars}
use Rattle.jn_base.specs.declared.refusal.Refusal.{Refusal}
use Rattle.jn_base.specs.declared.refusal.Rule.TheVariants as rule
use Rattle.jn_base.specs.Paths.{Path}
use Rattle.jn_base.specs.Members.{FieldDecls}
use Rattle.jn_base.specs.Atoms.{MasksOf}
use Rattle.jn_base.specs.Duplicates.{only_if, has_name}
use Rattle.jn_base.specs.Forms.{Mentions, Shared, Adapted, Constrained, Viewed, Termed, Masked, mentions}
use Rattle.jn_base.specs.Resolve.{bound_at, at_term, Resolve}

-- ---- the numbers of masks

-- the masks that are mentioned, in their order
abbrev pub mentioned_masks : Mentions → List Name
mentioned_masks [] = []
mentioned_masks (Shared n ∷ xs) = mentioned_masks xs
mentioned_masks (Adapted n ∷ xs) = mentioned_masks xs
mentioned_masks (Constrained ∷ xs) = mentioned_masks xs
mentioned_masks (Viewed ∷ xs) = mentioned_masks xs
mentioned_masks (Termed t ∷ xs) = mentioned_masks xs
mentioned_masks (Masked n ∷ xs) = n.name ∷ mentioned_masks xs

-- each name where it is first mentioned, but for those in `seen`
abbrev pub firsts : List Name → List Name → List Name
firsts seen [] = []
firsts seen (n ∷ ns) = only_if (not (has_name seen n)) (n ∷ []) ++ firsts (n ∷ seen) ns

-- The distinct mask names of a program in the order of their first mention as masks. A mask's number is its place in this list.
abbrev pub mask_names : Program → List Name
mask_names p = firsts [] (mentioned_masks (mentions p))

-- the mask of this number is one of these names; `names` are the mask names of the program
pub record IsMask (names : List Name) (ms : List Named) (i : ℕ) : Type 0 where
  pub mask : Named
  pub among : Contains ms mask
  pub is : slice_get names i ≡ Some mask.name

-- m is the set of these masks
abbrev pub MasksAre : List Name → List Named → Masks → Type 0
MasksAre names ms m = MasksOf (IsMask names ms) m

-- ---- the masks of a type

-- a mask is a field of some atom's bound where some declaration in Sup of that bound has it
pub record IsFieldOfAny (p : Program) (bounds : List Path) (f : Name) : Type 0 where
  pub bound : Path
  pub among : Contains bounds bound
  pub at : Path
  pub declares : FieldDecls p bound f at

-- a mask behind the masks `seen` is a field, and none of those
abbrev pub MaskFits : Program → List Path → List Name → Named → Type 0
MaskFits p bounds seen m = IsFieldOfAny p bounds m.name × (has_name seen m.name ≡ false)

-- `o` is the first mask, behind the masks `seen`, that is no field of any atom's bound or stands twice
abbrev pub FirstUnfit : Program → List Path → List Name → List Named → Option Named → Type 0
FirstUnfit p bounds seen [] o = o ≡ None
FirstUnfit p bounds seen (m ∷ ms) o =
    (MaskFits p bounds seen m × FirstUnfit p bounds (m.name ∷ seen) ms o) ⊎ ((MaskFits p bounds seen m → ⊥) × (o ≡ Some m))

-- ---- the terms of a type

abbrev pub before_all : ShownAtom → Result (List ShownAtom) Refusal → Result (List ShownAtom) Refusal
before_all x (Err r) = Err r
before_all x (Ok xs) = Ok (x ∷ xs)

-- the atoms of the terms, in order, or the first refusal of the first term that has one
pub data ResolveAll (p : Program) (spot : Spot) (vars : Vars) : List Term → Result (List ShownAtom) Refusal → Type 0 where
  none : {o : Result (List ShownAtom) Refusal} → o ≡ Ok [] → ResolveAll p spot vars [] o
  refused : {t : Term} {ts : List Term} {o : Result (List ShownAtom) Refusal} (r : Refusal) → Resolve p spot vars t (Err r)
      → o ≡ Err r → ResolveAll p spot vars (t ∷ ts) o
  first : {t : Term} {ts : List Term} {o : Result (List ShownAtom) Refusal} (x : ShownAtom) (others : Result (List ShownAtom) Refusal)
      → Resolve p spot vars t (Ok x) → ResolveAll p spot vars ts others → o ≡ before_all x others → ResolveAll p spot vars (t ∷ ts) o

abbrev pub bounds_at : Spot → Vars → List ShownAtom → List Path
bounds_at spot vars [] = []
bounds_at spot vars (x ∷ xs) = bound_at spot vars x ∷ bounds_at spot vars xs

-- the bounds have one depth
abbrev pub OneDepth : List Path → Type 0
OneDepth bounds = (B C : Path) → Contains bounds B → Contains bounds C → length B ≡ length C

-- a field type has no masks
abbrev pub may_mask : Role → Bool
may_mask role.Field = false
may_mask role.Value = true
may_mask role.From = true
may_mask role.To = true
may_mask role.View = true
may_mask role.New = true
may_mask role.Super = true

-- a mask where none may stand, and one that is no field or stands twice
abbrev pub masks_forbidden : Spot → Named → Refusal
masks_forbidden spot m = record { rule = rule.E15; at = m.at; class = Some spot.class; member = Some spot.owner; limit = None }

abbrev pub mask_unfit : Spot → Named → Refusal
mask_unfit spot m = record { rule = rule.E27; at = m.at; class = Some spot.class; member = Some m.name; limit = None }

-- the atoms with the set of the masks
pub record Taken (names : List Name) (xs : List ShownAtom) (ms : List Named) (o : Result Ty Refusal) : Type 0 where
  pub masks : Masks
  pub are : MasksAre names ms masks
  pub gives : o ≡ Ok (ty.Class xs masks)

-- E27 at the first mask that doesn't fit
abbrev pub UnfitGives : List Name → Spot → List ShownAtom → List Named → Option Named → Result Ty Refusal → Type 0
UnfitGives names spot xs ms (Some m) o = o ≡ Err (mask_unfit spot m)
UnfitGives names spot xs ms None o = Taken names xs ms o

pub record MaskedGives (p : Program) (names : List Name) (spot : Spot) (bounds : List Path) (xs : List ShownAtom) (ms : List Named) (o : Result Ty Refusal) : Type 0 where
  pub first : Option Named
  pub unfit : FirstUnfit p bounds [] ms first
  pub gives : UnfitGives names spot xs ms first o

-- E15 at the first mask of a field type
abbrev pub UnmaskedGives : List Name → Spot → List ShownAtom → List Named → Result Ty Refusal → Type 0
UnmaskedGives names spot xs [] o = Taken names xs [] o
UnmaskedGives names spot xs (m ∷ ms) o = o ≡ Err (masks_forbidden spot m)

abbrev pub MasksGive : Program → List Name → Spot → List Path → List ShownAtom → List Named → Bool → Result Ty Refusal → Type 0
MasksGive p names spot bounds xs ms true o = MaskedGives p names spot bounds xs ms o
MasksGive p names spot bounds xs ms false o = UnmaskedGives names spot xs ms o

-- E15 on depths at the second term, then the masks
pub data DepthsGive (p : Program) (names : List Name) (spot : Spot) (ts : List Term) (ms : List Named) (bounds : List Path) (xs : List ShownAtom) (o : Result Ty Refusal) : Type 0 where
  many : (one two : Term) (others : List Term) → (OneDepth bounds → ⊥) → ts ≡ one ∷ two ∷ others
      → o ≡ Err (at_term rule.E15 spot two) → DepthsGive p names spot ts ms bounds xs o
  one : OneDepth bounds → MasksGive p names spot bounds xs ms (may_mask spot.role) o → DepthsGive p names spot ts ms bounds xs o

abbrev pub AtomsGive : Program → List Name → Spot → Vars → List Term → List Named → Result (List ShownAtom) Refusal → Result Ty Refusal → Type 0
AtomsGive p names spot vars ts ms (Err r) o = o ≡ Err r
AtomsGive p names spot vars ts ms (Ok xs) o = DepthsGive p names spot ts ms (bounds_at spot vars xs) xs o

-- The terms of a class type with its masks: first the terms, in order; then E15 on depths, E15 on the masks of a field
-- type, and E27.
pub record ResolveClass (p : Program) (names : List Name) (spot : Spot) (vars : Vars) (ts : List Term) (ms : List Named) (o : Result Ty Refusal) : Type 0 where
  pub atoms : Result (List ShownAtom) Refusal
  pub all : ResolveAll p spot vars ts atoms
  pub gives : AtomsGive p names spot vars ts ms atoms o

-- A type as it is written.
abbrev pub ResolveType : Program → List Name → Spot → Vars → TypeTerm → Result Ty Refusal → Type 0
ResolveType p names spot vars type.Int o = o ≡ Ok ty.Int
ResolveType p names spot vars type.Bool o = o ≡ Ok ty.Bool
ResolveType p names spot vars (type.Class ts ms) o = ResolveClass p names spot vars ts ms o

-- The target of a view, or a side of a constraint.
abbrev pub ResolveView : Program → List Name → Spot → Vars → ViewTerm → Result Ty Refusal → Type 0
ResolveView p names spot vars v o = ResolveClass p names spot vars (v.term ∷ []) v.masks o
