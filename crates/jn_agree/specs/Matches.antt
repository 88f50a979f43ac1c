-- When an arena matches a heap.
use Rattle.std.specs.Prelude.{◌≡◌, ◌<◌, ℕ, suc, ◌+◌, ◌++◌, ℤ, pos, List, [], ◌∷◌, length, Some, slice_get}
use Rattle.jn_base.specs.declared.tree.Name.{Name}
use Rattle.jn_base.specs.declared.tree.Program.{Program}
use Rattle.jn_base.specs.Paths.{Path}
use Rattle.jn_code.specs.declared.image.Image.{Image}
use Rattle.jn_code.specs.declared.image.Group.{Group}
use Rattle.jn_code.specs.declared.image.ClassRow.{ClassRow}
use Rattle.jn_code.specs.Machine.{slot_in}
use Rattle.jn_sem.specs.Sharing.{Related}
use Rattle.jn_sem.specs.Slots.{Slot, IsSlot}
use Rattle.jn_sem.specs.Values.{Value}
use Rattle.jn_sem.specs.State.{Object, Heap, stored_value}
use Rattle.jn_sem.specs.LawsOfHeaps.{Later}
use Rattle.jn_agree.specs.declared.selectors.FieldSel.{FieldSel}
use Rattle.jn_agree.specs.Naming.{Naming, First, IsWord}

-- row k is that of the class V
pub record RowOf (i : Image) (n : Naming) (V : Path) (k : ℕ) (row : ClassRow) : Type 0 where
  pub class : slice_get n.classes k ≡ Some V
  pub there : slice_get i.classes k ≡ Some row

-- by the row of V the field f is in slot m
pub record SlotNumber (i : Image) (n : Naming) (V : Path) (f : Name) (m : ℕ) : Type 0 where
  pub k : ℕ
  pub row : ClassRow
  pub is : RowOf i n V k row
  pub s : ℕ
  pub sel : FieldSel
  pub selector : slice_get n.fields s ≡ Some sel
  pub name : sel.name ≡ f
  pub slot : slot_in row s ≡ Some m

-- the cells of an object of this class: its group's number, and one for each slot
pub record CellsOf (i : Image) (n : Naming) (V : Path) (size : ℕ) : Type 0 where
  pub k : ℕ
  pub row : ClassRow
  pub is : RowOf i n V k row
  pub group : Group
  pub at : slice_get i.groups row.group ≡ Some group
  pub cells : size ≡ suc (length group.slots)

-- The objects from some one on have their cells from `from` on, one behind the other, up to the end.
abbrev pub Blocks : Image → Naming → List Object → List First → (from end : ℕ) → Type 0
Blocks i n [] [] from end = from ≡ end
Blocks i n [] (c ∷ cs) from end = ⊥
Blocks i n (x ∷ xs) [] from end = ⊥
Blocks i n (x ∷ xs) (c ∷ cs) from end =
    (c.cell ≡ from) × (c.made ≡ x.made) × (size : ℕ) × CellsOf i n x.made size × Blocks i n xs cs (from + size) end

-- the cell has the word of the value
pub record HasWord (p : Program) (n : Naming) (firsts : List First) (a : List ℤ) (cell : ℕ) (v : Value) : Type 0 where
  pub word : ℤ
  pub at : slice_get a cell ≡ Some word
  pub is : IsWord p n firsts v word

-- The object x has its first cell at c: there stands its group's number, and behind it, by whatever view of its group
-- and whatever field one looks, the word of the slot's value, where it has one.
pub record ObjectAt (p : Program) (i : Image) (n : Naming) (firsts : List First) (a : List ℤ) (x : Object)
    (c : ℕ) : Type 0 where
  pub group : (k : ℕ) (row : ClassRow) → RowOf i n x.made k row → slice_get a c ≡ Some (pos row.group)
  pub slots : (V : Path) (f : Name) (s : Slot) (m : ℕ) (v : Value) → Related p x.made V → IsSlot p V f s
      → SlotNumber i n V f m → stored_value x.stored s ≡ Some v → HasWord p n firsts a (c + 1 + m) v

-- A heap with the first cells of its objects, in the order of their making.
pub record World : Type 0 where
  pub firsts : List First
  pub heap : Heap

-- The objects have their cells one behind the other, from the arena's first to its last used cell; each has its group
-- and its values there; and the used cells are as many as the heap's, so that a cell's number fits into a word.
pub record Matches (p : Program) (i : Image) (n : Naming) (x : World) (a : List ℤ) : Type 0 where
  pub blocks : Blocks i n x.heap.objects x.firsts 0 (length a)
  pub objects : (o : ℕ) (y : Object) (c : First) → slice_get x.heap.objects o ≡ Some y
      → slice_get x.firsts o ≡ Some c → ObjectAt p i n x.firsts a y c.cell
  pub used : length a ≡ x.heap.used
  pub small : length a < 4294967296

-- y goes on from x: what has a first cell keeps it
pub record Onward (x y : World) : Type 0 where
  pub more : List First
  pub firsts : y.firsts ≡ x.firsts ++ more
  pub heap : Later x.heap y.heap
