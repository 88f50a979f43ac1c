-- The rows of slots, one after the other.
use Rattle.std.proofs.Common.{◌≡◌, ◌<◌, ◌≤◌, ◌+◌, ◌↔◌, ◌⊎◌, inl, inr, ℕ, zero, suc, List, [], ◌∷◌, ◌++◌, length, Some, slice_get, get_or, take, Bool, IsTrue, true, false, refl, sym, ap, ◌∙◌, subst, arith}
use Rattle.std.specs.Prelude.{nat_lt}
use Rattle.std.specs.declared.vec.Vec.{Vec}
use Rattle.std.specs.declared.alloc.Global.{Global}
use Rattle.std.specs.List.Sorted.{IsStrictlyIncreasing}
use Rattle.std.proofs.lemmas.Bool.{cases_lt}
use Rattle.std.proofs.lemmas.Option.{slice_get_read}
use Rattle.jn_reach.specs.Each.{Each}
use Rattle.jn_reach.specs.Graph.{Graph}
use Rattle.jn_reach.proofs.Eachs.{Each-more}
use Rattle.jn_reach.specs.Pairs.{AreMembers}
use Rattle.jn_table.specs.declared.table.Table.{Table}
use Rattle.jn_share.specs.declared.field_first.FieldFirst.{FieldFirst}
use Rattle.jn_share.specs.declared.keys.FieldKey.{FieldKey}
use Rattle.jn_share.specs.declared.slots.SlotRow.{SlotRow}
use Rattle.jn_share.specs.Keys.{SaysSlotRow, SlotRowsTo, SaysOver, NoneOverTo}

lt_true : (a b : ℕ) → a < b → nat_lt a b ≡ true
lt_true a b l = grind arith

true_lt : (a b : ℕ) → nat_lt a b ≡ true → a < b
true_lt a b e = grind arith

pub over_told : (C : Type 0) (a : Bool) (xs ks : List FieldKey) → a ≡ true → IsTrue a ↔ C → xs ≡ ks → IsTrue (nat_lt 250 (length xs)) ↔ (C × (250 < length ks))
over_told C a xs ks e i q = (
  λ t. (i.0 e, subst (λ (zs : List FieldKey). 250 < length zs) q (true_lt 250 (length xs) t)),
  λ h. lt_true 250 (length xs) (subst (λ (zs : List FieldKey). 250 < length zs) (sym q) h.1),
)

pub numbers_ascend : (starts : List ℕ) (rows : Graph) → AreMembers starts rows → (i : ℕ) (given : Graph) → given ≡ rows → i < length given → (row : Vec ℕ Global) → row ≡ get_or given i row
    → (items : List ℕ) → items ≡ row.items → IsStrictlyIncreasing items
numbers_ascend starts rows m i given g l row e items q =
    subst IsStrictlyIncreasing (sym q) (m.each i row (subst (λ (xs : Graph). slice_get xs i ≡ Some row) g (slice_get_read given (length given) i row refl l e))).ascending

pub slots_push : (t : Table) (keys : List (Vec FieldKey Global)) (starts : List ℕ) (rows : List (Vec FieldFirst Global)) (out after : List SlotRow) (k : ℕ) (row : SlotRow)
    → after ≡ out ++ row ∷ [] → length out ≡ k → SaysSlotRow t keys starts rows k row → SlotRowsTo t keys starts rows k out → SlotRowsTo t keys starts rows (k + 1) after
slots_push t keys starts rows out after k row e l h all j m = by_place (cases_lt j k) where
  still : (xs : List SlotRow) (i : ℕ) (x : SlotRow) → slice_get xs i ≡ Some x → slice_get (xs ++ row ∷ []) i ≡ Some x
  still [] i x q = absurd (cc q)
  still (y ∷ ys) zero x q = q
  still (y ∷ ys) (suc i) x q = still ys i x q

  last : (xs : List SlotRow) → slice_get (xs ++ row ∷ []) (length xs) ≡ Some row
  last [] = refl
  last (y ∷ ys) = last ys

  by_place : (j < k) ⊎ (k ≤ j) → (r : SlotRow) × (slice_get after j ≡ Some r) × SaysSlotRow t keys starts rows j r
  by_place (inl b) =
      let x = all j b in
      (x.0, subst (λ (xs : List SlotRow). slice_get xs j ≡ Some x.0) (sym e) (still out j x.0 x.1), x.2)
  by_place (inr b) =
      let same : k ≡ j = omega arith in (
        row,
        subst (λ (xs : List SlotRow). slice_get xs j ≡ Some row) (sym e) (ap (slice_get (out ++ row ∷ [])) (sym same ∙ sym l) ∙ last out),
        subst (λ (n : ℕ). SaysSlotRow t keys starts rows n row) same h,
      )

pub none_over_more : (t : Table) (keys : List (Vec FieldKey Global)) (starts : List ℕ) (k : ℕ) (b : Bool) → b ≡ false → SaysOver t keys starts k b → NoneOverTo t keys starts k
    → NoneOverTo t keys starts (k + 1)
none_over_more t keys starts k b e h all j m = by_place (cases_lt j k) where
  by_place : (j < k) ⊎ (k ≤ j) → SaysOver t keys starts j false
  by_place (inl l) = all j l
  by_place (inr l) =
      let same : k ≡ j = omega arith in
      subst (λ (n : ℕ). SaysOver t keys starts n false) same (subst (SaysOver t keys starts k) e h)

pub each_step : {A B : Type 0} (R : A → B → Type 0) (xs given : List A) (ys after : List B) (i : ℕ) (x : A) (y : B) → given ≡ xs → i < length given → x ≡ get_or given i x
    → after ≡ ys ++ y ∷ [] → Each R (take i xs) ys → R x y → Each R (take (i + 1) xs) after
each_step {A} {B} R xs given ys after i x y e l h q all r =
    subst (Each R (take (i + 1) xs)) (sym q)
    (Each-more R xs ys i x y (subst (λ (zs : List A). i < length zs) e l) (subst (λ (zs : List A). x ≡ get_or zs i x) e h) all r)
