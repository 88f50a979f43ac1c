-- What holds of an arena that matches a heap, where the rows of the image are the program's.
use Rattle.std.specs.Prelude.{◌≡◌, ◌<◌, ℕ, suc, ◌+◌, ◌++◌, ℤ, List, [], ◌∷◌, length, Some, slice_get, slice_set}
use Rattle.jn_base.specs.declared.tree.Name.{Name}
use Rattle.jn_base.specs.declared.tree.Program.{Program}
use Rattle.jn_base.specs.Paths.{Path}
use Rattle.jn_code.specs.declared.image.Image.{Image}
use Rattle.jn_code.specs.declared.image.Group.{Group}
use Rattle.jn_code.specs.declared.image.ClassRow.{ClassRow}
use Rattle.jn_code.specs.Machine.{ref_word, viewed, object_cells}
use Rattle.jn_sem.specs.Sharing.{IsClass, Related, Counterpart}
use Rattle.jn_sem.specs.Slots.{Slot, IsSlot}
use Rattle.jn_sem.specs.Values.{Value}
use Rattle.jn_sem.specs.State.{Stored, Object, with_slot, with_object}
use Rattle.jn_sem.specs.Does.{AreFresh}
use Rattle.jn_agree.specs.Naming.{Naming, First, IsWord}
use Rattle.jn_agree.specs.Matches.{World, Matches, RowOf, CellsOf, SlotNumber}
use Rattle.jn_agree.specs.Rows.{RowIs, RowsAre}

pub record MatchingOf (p : Program) (i : Image) (n : Naming) : Type 0 where
  -- classes of one group have its number
  pub group : (V W : Path) (r s : ClassRow) → Related p V W → RowIs p n V r → RowIs p n W s → r.group ≡ s.group
  -- the slot of a class is one of the cells of each object of its group, behind the first
  pub below : (V W : Path) (f : Name) (m size : ℕ) → Related p V W → CellsOf i n V size → SlotNumber i n W f m
      → suc m < size
  -- a reference whose view has a counterpart in a family is viewed there as the counterpart: the same cell
  pub viewed : (V W : Path) (k f cell : ℕ) (Y : Name) → cell < 4294967296 → slice_get n.classes k ≡ Some V
      → slice_get n.classes f ≡ Some (Y ∷ []) → Counterpart p Y V W
      → (j : ℕ) × (viewed i f (ref_word k cell) ≡ Some (ref_word j cell)) × (slice_get n.classes j ≡ Some W)
  -- objects with one first cell are one
  pub one : (x : World) (a : List ℤ) (o q : ℕ) (c d : First) → Matches p i n x a → slice_get x.firsts o ≡ Some c
      → slice_get x.firsts q ≡ Some d → c.cell ≡ d.cell → o ≡ q
  -- A slot gets a value, and its cell, found by the view and the field, the value's word: the arena still matches.
  pub stored : (x : World) (a : List ℤ) (o : ℕ) (y : Object) (c : First) (V : Path) (f : Name) (s : Slot) (m : ℕ)
      (v : Value) (z : ℤ)
      → Matches p i n x a → slice_get x.heap.objects o ≡ Some y → slice_get x.firsts o ≡ Some c
      → Related p y.made V → IsSlot p V f s → SlotNumber i n V f m → IsWord p n x.firsts v z
      → Matches p i n (record { firsts = x.firsts; heap = with_slot x.heap o y s v }) (slice_set a (c.cell + 1 + m) z)
  -- An object is made, and the arena gets its group's number and a zero for each slot: it still matches.
  pub made : (x : World) (a : List ℤ) (V : Path) (k : ℕ) (row : ClassRow) (group : Group) (fresh : List Stored)
      → Matches p i n x a → IsClass p V → RowOf i n V k row → slice_get i.groups row.group ≡ Some group →
      AreFresh p V fresh
      → length a + suc (length group.slots) < 4294967296
      → Matches p i n (record {
        firsts = x.firsts ++ record { cell = length a; made = V } ∷ [];
        heap = with_object x.heap (suc (length group.slots)) (record { made = V; stored = fresh });
      }) (a ++ object_cells row.group group)

abbrev pub MatchingHolds : Type 0
MatchingHolds = (p : Program) (i : Image) (n : Naming) → RowsAre p i n → MatchingOf p i n
