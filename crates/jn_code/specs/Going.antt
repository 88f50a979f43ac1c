-- The states that a run of a valid image comes to: each word is of the kind that is known of its place, and a reference is
-- to an object that is there. (Any word is a number or a truth value here.)
use Rattle.std.specs.Prelude.{◌≡◌, ℕ, ◌+◌, ◌<◌, ◌≤◌, List, [], ◌∷◌, ◌++◌, length, ℤ, pos, Bool, true, false, Option, Some, None, slice_get, nat_eq, ◌⊎◌}
use Rattle.jn_steps.specs.Runs.{On, after}
use Rattle.jn_code.specs.declared.kind.OperandKind.{OperandKind}
use Rattle.jn_code.specs.declared.kind.OperandKind.TheVariants as kind
use Rattle.jn_code.specs.declared.image.Image.{Image}
use Rattle.jn_code.specs.declared.image.Group.{Group}
use Rattle.jn_code.specs.declared.image.ClassRow.{ClassRow}
use Rattle.jn_code.specs.declared.image.Code.{Code}
use Rattle.jn_code.specs.Kinds.{kind_of, result_kind, locals_of, list_of}
use Rattle.jn_code.specs.Known.{KnownAt, notes_of}
use Rattle.jn_code.specs.Machine.{Frame, Ref, ref_word, Machine, instruct, boot}

-- A cell is the first of an object of a group, or a slot of a kind.
pub data Cell : Type 0 where
  First : (group : ℕ) → Cell
  Slot : OperandKind → Cell

-- Class k views objects of this group.
pub record Views (i : Image) (k group : ℕ) : Type 0 where
  pub row : ClassRow
  pub is : slice_get i.classes k ≡ Some row
  pub same : row.group ≡ group
  pub some : nat_eq group 65535 ≡ false

-- A reference to an object that is there, at a class of its group.
pub record IsRef (i : Image) (p : List Cell) (r : Ref) : Type 0 where
  pub group : ℕ
  pub views : Views i r.view group
  pub first : slice_get p r.cell ≡ Some (First group)

abbrev pub IsWord : Image → List Cell → OperandKind → ℤ → Type 0
IsWord i p kind.Int z = Unit {0}
IsWord i p kind.Bool z = Unit {0}
IsWord i p kind.Reference z = (z ≡ pos 0) ⊎ ((r : Ref) × IsRef i p r × (z ≡ ref_word r.view r.cell))
IsWord i p kind.Class z = (k : ℕ) × (z ≡ pos k) × (k < length i.classes)

-- what is on the left goes with the word on the right, one by one
abbrev pub Pairs : {A : Type 0} → (A → ℤ → Type 0) → List A → List ℤ → Type 0
Pairs R [] [] = Unit {0}
Pairs R [] (z ∷ zs) = ⊥
Pairs R (a ∷ rest) [] = ⊥
Pairs R (a ∷ rest) (z ∷ zs) = R a z × Pairs R rest zs

pub record AreWords (i : Image) (p : List Cell) (ks : List OperandKind) (zs : List ℤ) : Type 0 where
  pub are : Pairs (IsWord i p) ks zs

-- the first cell of an object has any word here: no instruction reads it
abbrev pub CellHolds : Image → List Cell → Cell → ℤ → Type 0
CellHolds i p (First g) z = Unit {0}
CellHolds i p (Slot k) z = IsWord i p k z

-- The slots of an object follow its first cell.
abbrev pub PlanOk : Image → List Cell → Type 0
PlanOk i p =
    (c g : ℕ) (group : Group) → slice_get p c ≡ Some (First g) → slice_get i.groups g ≡ Some group → (j b : ℕ) → slice_get group.slots j ≡ Some b → slice_get p (c + 1 + j) ≡ Some (Slot (kind_of b))

pub record HeapOk (i : Image) (capacity : ℕ) (p : List Cell) (h : List ℤ) : Type 0 where
  pub cells : Pairs (CellHolds i p) p h
  pub plan : PlanOk i p
  pub small : length h ≤ capacity
  pub bound : capacity < 4294967296

-- A frame at work or waiting, where these kinds are still to come on top of its operands.
pub record Placed (i : Image) (p : List Cell) (f : Frame) (above : List OperandKind) : Type 0 where
  pub code : Code
  pub is : slice_get i.codes f.code ≡ Some code
  pub ks : List OperandKind
  pub known : KnownAt (notes_of i code) f.place (above ++ ks)
  pub vars : AreWords i p (locals_of code) f.vars
  pub vals : AreWords i p ks f.vals

-- what comes of a result that is kept, or not
abbrev pub expected : Bool → Option OperandKind → List OperandKind
expected true r = list_of r
expected false r = []

abbrev pub WaitsFor : Image → List Cell → Frame → Option OperandKind → Type 0
WaitsFor i p f r = Placed i p f (expected f.keeps r)

abbrev pub code_result : Option Code → Option OperandKind
code_result None = None
code_result (Some c) = result_kind c.result

abbrev pub result_at : Image → ℕ → Option OperandKind
result_at i b = code_result (slice_get i.codes b)

-- those that wait for a result of this kind, or for none
abbrev pub Waiting : Image → List Cell → Option OperandKind → List Frame → Type 0
Waiting i p r [] = Unit {0}
Waiting i p r (f ∷ fs) = WaitsFor i p f r × Waiting i p (result_at i f.code) fs

-- the frame at work and those that wait
pub record Going (i : Image) (m : ℕ) (f : Frame) (fs : List Frame) (h : List ℤ) : Type 0 where
  pub plan : List Cell
  pub heap : HeapOk i m plan h
  pub active : Placed i plan f []
  pub waiting : Waiting i plan (result_at i f.code) fs

abbrev pub GoingOn : Image → ℕ → List Frame → List ℤ → Type 0
GoingOn i m [] h = ⊥
GoingOn i m (f ∷ fs) h = Going i m f fs h

-- So is each state that a run comes to, where a reference can number each cell of the arena.
abbrev pub StaysGoing : Image → Type 0
StaysGoing i =
    (capacity depth n : ℕ) (s : Machine) → capacity < 4294967296 → after (instruct i capacity depth) n (boot i) ≡ On s → GoingOn i capacity s.frames s.heap
