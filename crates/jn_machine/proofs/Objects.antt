-- Instructions that look at the cells.
use Rattle.std.proofs.Common.{◌≡◌, refl, sym, ap, ◌∙◌, ℕ, suc, ◌+◌, ◌<◌, ◌≤◌, List, ◌∷◌, ◌++◌, length, ℤ, pos, Bool, true, false, Option, Some, None, slice_get, slice_set, get_or, nat_lt, nat_le, arith}
use Rattle.std.specs.Prelude.{nat_eq, if◌then◌else◌}
use Rattle.std.proofs.lemmas.Bool.Decides.{nat_tests}
use Rattle.std.proofs.lemmas.List.{length-replicate}
use Rattle.std.proofs.lemmas.Option.{slice_get_read, slice_get-get_or}
use Rattle.jn_steps.specs.Steps.{Faults, on_some}
use Rattle.jn_code.specs.declared.image.Image.{Image}
use Rattle.jn_code.specs.declared.image.Group.{Group}
use Rattle.jn_code.specs.declared.image.ClassRow.{ClassRow}
use Rattle.jn_code.specs.declared.instr.Instr.TheVariants as op
use Rattle.jn_code.specs.Rows.{numbered}
use Rattle.jn_code.specs.Machine as code

-- what a program read from a slice
pub read_at : {A : Type 0} (xs ys : List A) (k : ℕ) (x : A) → ys ≡ xs → k < length xs → x ≡ get_or ys k x → slice_get xs k ≡ Some x
read_at xs ys k x e h q = slice_get_read xs (length xs) k x refl h (q ∙ ap (λ zs. get_or zs k x) e)

pub number_at : {A : Type 0} (xs ys : List A) (k : ℕ) (d : A) → ys ≡ xs → k < length xs → slice_get xs k ≡ Some (get_or ys k d)
number_at xs ys k d e h = slice_get-get_or xs k d h ∙ ap (λ zs. Some (get_or zs k d)) (sym e)

pub numbered_some : (n : ℕ) → nat_eq n 65535 ≡ false → numbered n ≡ Some n
numbered_some n e = ap (λ (b : Bool). if◌then◌else◌ {A = Option ℕ} b None (Some n)) e

module _ (i : Image) (m s : ℕ) (f : code.Frame) (h : List ℤ) (z : ℤ) (r : code.Ref) (row : ClassRow) (vs : List ℤ) (seen : code.ref_in z ≡ Some r) (is : slice_get i.classes r.view ≡ Some row) where
  -- a field that is there
  pub got : (slot kind : ℕ) (y : ℤ) (o : Option ℤ) → f.vals ≡ z ∷ vs → code.slot_in row s ≡ Some slot → slice_get h (r.cell + 1 + slot) ≡ Some y → slice_get i.fields s ≡ Some kind → code.field_value i kind row.family y ≡ o → code.obey i m (op.Get s) f h ≡ on_some code.Null o (λ w. code.next f (w ∷ vs) h)
  got slot kind y o a b c d e = rw (a, seen, is, b, c, d, e)

  pub put_none : (y : ℤ) → f.vals ≡ y ∷ (z ∷ vs) → code.slot_in row s ≡ None → code.obey i m (op.Put s) f h ≡ Faults code.Null
  put_none y a b = rw (a, seen, is, b)

  pub put_is : (y : ℤ) (slot : ℕ) → f.vals ≡ y ∷ (z ∷ vs) → code.slot_in row s ≡ Some slot → r.cell + 1 + slot < length h → code.obey i m (op.Put s) f h ≡ code.next f vs (slice_set h (r.cell + 1 + slot) y)
  put_is y slot a b l =
      let t : nat_lt (r.cell + 1 + slot) (length h) ≡ true = grind (arith, nat_tests) in
      rw (a, seen, is, b, t)

module _ (i : Image) (m : ℕ) (f : code.Frame) (h : List ℤ) (z : ℤ) (row : ClassRow) (g : Group) (vs : List ℤ) (is : slice_get i.classes (code.class_in z) ≡ Some row) (there : slice_get i.groups row.group ≡ Some g) (some : nat_eq row.group 65535 ≡ false) where
  made_by : (b : Bool) → nat_le (length h + length (code.object_cells row.group g)) m ≡ b → f.vals ≡ z ∷ vs → code.obey i m op.New f h ≡ (if b then code.next f (code.ref_word (code.class_in z) (length h) ∷ vs) (h ++ code.object_cells row.group g) else Faults code.Arena)
  made_by b t a = rw (a, is, some, there, t)

  cells_long : length (code.object_cells row.group g) ≡ suc (length g.slots)
  cells_long = ap suc (length-replicate (length g.slots) (pos 0))

  pub full : f.vals ≡ z ∷ vs → m < length h + 1 + length g.slots → code.obey i m op.New f h ≡ Faults code.Arena
  full a l =
      let e = cells_long in
      let d : m < length h + length (code.object_cells row.group g) = omega arith in
      made_by false (grind (arith, nat_tests)) a

  pub made : f.vals ≡ z ∷ vs → length h + 1 + length g.slots ≤ m → code.obey i m op.New f h ≡ code.next f (code.ref_word (code.class_in z) (length h) ∷ vs) (h ++ code.object_cells row.group g)
  made a l =
      let e = cells_long in
      let d : length h + length (code.object_cells row.group g) ≤ m = omega arith in
      made_by true (grind (arith, nat_tests)) a
