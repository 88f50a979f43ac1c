-- Which fields pass.
use Rattle.std.proofs.Common.{◌≡◌, ◌<◌, ◌≤◌, ◌+◌, ◌↔◌, ◌⊎◌, inl, inr, ℕ, List, length, get_or, Contains, Some, Bool, true, false, IsTrue, slice_get, refl, sym, ap, ◌∙◌, subst, arith}
use Rattle.std.specs.declared.cmp.Ordering.TheVariants.{Less, Greater}
use Rattle.std.specs.Ordering.{ordering_reverse}
use Rattle.std.specs.List.Sorted.{IsStrictlySortedBy}
use Rattle.std.proofs.lemmas.Bool.{cases_lt}
use Rattle.std.proofs.lemmas.Option.{slice_get_read, slice_get_within, slice_get-get_or}
use Rattle.jn_reach.proofs.Searches.{same_some, not_when}
use Rattle.jn_base.specs.declared.tree.Name.{Name}
use Rattle.jn_base.specs.declared.tree.Program.{Program}
use Rattle.jn_base.specs.declared.types.Masks.{Masks}
use Rattle.jn_base.specs.Paths.{Path}
use Rattle.jn_base.specs.ClassOrder.{name_cmp, name_total}
use Rattle.jn_table.specs.declared.class.ClassId.{ClassId}
use Rattle.jn_table.specs.declared.class.Row.{Row}
use Rattle.jn_table.specs.declared.table.Table.{Table}
use Rattle.jn_table.specs.Rows.{IsNumber}
use Rattle.jn_table.specs.Tables.{IsFilled, SaysRow}
use Rattle.jn_table.proofs.Sorted.{in_order}
use Rattle.jn_sem.specs.Holds.{Sides, Passes, masked, same_slot, Blocks, IsFirstName}
use Rattle.jn_sem.specs.Values.{HasField, Masked}
use Rattle.jn_share.specs.declared.slots.Slots.{Slots}
use Rattle.jn_share.specs.Slots.{HasSlot, HaveOneSlot}
use Rattle.jn_share.proofs.FieldLists.{field_in, in_field}
use Rattle.jn_share.proofs.FieldRows.{less_itself}
use Rattle.jn_share.proofs.KeyLists.{at_in}
use Rattle.jn_views.specs.Turning.{SaysOfSlots, SaysOfViews, masked_sides}

-- two slot numbers of related classes are equal exactly where the slots are one
pub slots_equal : (s : Slots) (u w : ClassId) (f : Name) (a b : ℕ) → HasSlot s u f a → HasSlot s w f b → (told : Bool) → IsTrue told ↔ (a ≡ b)
    → SaysOfSlots s u w (λ p U W. IsTrue told ↔ HaveOneSlot p U f W f)
slots_equal s u w f a b x y told i = λ p known U W are at also rel.
    let e = (are.classes u U at rel.one).equal W w f f a b also rel x y in
    (λ t. e.0 (i.0 t), λ h. i.1 (e.1 h))

-- without a slot number at one of them there is no one slot
pub no_first : (s : Slots) (u w : ClassId) (f : Name) → ((n : ℕ) → HasSlot s u f n → ⊥) → SaysOfSlots s u w (λ p U W. IsTrue false ↔ HaveOneSlot p U f W f)
no_first s u w f n = λ p known U W are at also rel. (
  λ t. absurd (cc t),
  λ h. let q = ((are.classes u U at rel.one).fields f).0 h.1.first.holds.both.in_other in absurd (n q.0 q.1),
)

pub no_other : (s : Slots) (u w : ClassId) (f : Name) → ((n : ℕ) → HasSlot s w f n → ⊥) → SaysOfSlots s u w (λ p U W. IsTrue false ↔ HaveOneSlot p U f W f)
no_other s u w f n = λ p known U W are at also rel. (
  λ t. absurd (cc t),
  λ h. let q = ((are.classes w W also rel.other).fields f).0 h.2.first.holds.both.in_other in absurd (n q.0 q.1),
)

pub passes_by : (p : Program) (c : Sides) (U W : Path) (f : Name) (told : Bool) → (Masked c.names c.to_masks f → ⊥) → (Masked c.names c.from_masks f → ⊥)
    → IsTrue told ↔ HaveOneSlot p U f W f → IsTrue told ↔ Passes p c U W f
passes_by p c U W f told n m i = (
  λ t. let h = i.0 t in same_slot h.0 h.1.first.holds.both.in_other h.1 h.2 m,
  λ h. i.1 (from h),
) where
  from : Passes p c U W f → HaveOneSlot p U f W f
  from (masked k) = absurd (n k)
  from (same_slot s h a b k) = (s, a, b)

pub passes_masked : (p : Program) (c : Sides) (U W : Path) (f : Name) → Masked c.names c.to_masks f → IsTrue true ↔ Passes p c U W f
passes_masked p c U W f m = (λ t. masked m, λ h. refl)

pub passes_not : (p : Program) (c : Sides) (U W : Path) (f : Name) → (Masked c.names c.to_masks f → ⊥) → Masked c.names c.from_masks f → IsTrue false ↔ Passes p c U W f
passes_not p c U W f n m = (λ t. absurd (cc t), λ h. absurd (none h)) where
  none : Passes p c U W f → ⊥
  none (masked k) = n k
  none (same_slot s h a b k) = k m

-- ---- the first field that doesn't pass

-- in a list in order, what is less stands before
earlier : (p : Program) (xs : List Name) → IsStrictlySortedBy (name_cmp p) xs → (i j : ℕ) (f g : Name) → slice_get xs i ≡ Some f → slice_get xs j ≡ Some g → name_cmp p g f ≡ Less → j < i
earlier p xs sorted i j f g a b less = by_place (cases_lt j i) where
  both : name_cmp p f g ≡ Less → ⊥
  both e = let c : Less ≡ Greater = sym e ∙ ((name_total p).antisymm f g ∙ ap ordering_reverse less) in cc c

  by_other : i ≤ j → (i < j) ⊎ (j ≤ i) → j < i
  by_other n (inl l) = absurd (both ((in_order (name_cmp p) xs sorted).by i j f g l a b))
  by_other n (inr m) =
      let e : i ≡ j = omega arith in
      let same : g ≡ f = same_some (slice_get xs j) g f b (subst (λ (k : ℕ). slice_get xs k ≡ Some f) e a) in
      absurd (less_itself p f (subst (λ (x : Name). name_cmp p x f ≡ Less) same less))

  by_place : (j < i) ⊎ (i ≤ j) → j < i
  by_place (inl l) = l
  by_place (inr n) = by_other n (cases_lt i j)

-- the first n fields pass
abbrev pub PassTo : Slots → ClassId → ClassId → Masks → Masks → List Name → List Name → ℕ → Type 0
PassTo s u w from to names fields n = (j : ℕ) (f : Name) → j < n → slice_get fields j ≡ Some f → SaysOfSlots s u w (λ p U W. Passes p (masked_sides from to names) U W f)

module _ (t : Table) (s : Slots) (u w : ClassId) (from to : Masks) (names : List Name) (row : Row) (is : SaysRow t w row) (fields : List Name) (same : fields ≡ row.fields.items) where
  pub pass_more : (i : ℕ) (zero : Name) → i < length fields → (told : Bool) → told ≡ true
      → SaysOfSlots s u w (λ p U W. IsTrue told ↔ Passes p (masked_sides from to names) U W (get_or fields i zero))
      → PassTo s u w from to names fields i → PassTo s u w from to names fields (i + 1)
  pass_more i zero l told e says all j f m a = by_place (cases_lt j i) where
    by_place : (j < i) ⊎ (i ≤ j) → SaysOfSlots s u w (λ p U W. Passes p (masked_sides from to names) U W f)
    by_place (inl b) = all j f b a
    by_place (inr b) = λ p known U W are at also rel.
        let k : j ≡ i = omega arith in
        let one : get_or fields i zero ≡ f =
        same_some (slice_get fields i) (get_or fields i zero) f (slice_get-get_or fields i zero l) (subst (λ (n : ℕ). slice_get fields n ≡ Some f) k a) in
        subst (Passes p (masked_sides from to names) U W) one ((says p known U W are at also rel).0 e)

  at_field : (p : Program) (W : Path) → IsFilled p t → IsNumber t.known.items w W → (f : Name) → HasField p W f → (j : ℕ) × (slice_get fields j ≡ Some f)
  at_field p W filled also f h =
      let c : Contains fields f = subst (λ (xs : List Name). Contains xs f) (sym same) (field_in p t.known.items W row (is p W filled.table also) f h) in
      (c.0, slice_get_read fields (length fields) c.0 f refl c.1 (sym c.2))

  pub none_blocked : (n : ℕ) → length fields ≤ n → PassTo s u w from to names fields n
      → SaysOfViews t s u w (λ p U W. (f : Name) → HasField p W f → Passes p (masked_sides from to names) U W f)
  none_blocked n past all = λ p U W filled are at also rel f h.
      let k = at_field p W filled also f h in
      all k.0 f (omega (arith, past, slice_get_within fields k.0 f k.1)) k.1 p t.known.items U W are at also rel

  pub blocked : (i : ℕ) (zero : Name) → i < length fields → (told : Bool) → told ≡ false
      → SaysOfSlots s u w (λ p U W. IsTrue told ↔ Passes p (masked_sides from to names) U W (get_or fields i zero))
      → PassTo s u w from to names fields i
      → SaysOfViews t s u w (λ p U W. IsFirstName p (Blocks p (masked_sides from to names) U W) (get_or fields i zero))
  blocked i zero l told e says all = λ p U W filled are at also rel.
      let row_is = is p W filled.table also in
      let here = slice_get-get_or fields i zero l in
      let there : slice_get row.fields.items i ≡ Some (get_or fields i zero) = subst (λ (xs : List Name). slice_get xs i ≡ Some (get_or fields i zero)) same here in
      record {
        holds = record {
          has = in_field p t.known.items W row row_is (get_or fields i zero) (at_in row.fields.items i (get_or fields i zero) there);
          refused = not_when e (says p t.known.items U W are at also rel);
        };
        first = λ g b less.
            let k = at_field p W filled also g b.has in
            let m : slice_get row.fields.items k.0 ≡ Some g = subst (λ (xs : List Name). slice_get xs k.0 ≡ Some g) same k.1 in
            let low = earlier p row.fields.items row_is.fields.in_order i k.0 (get_or fields i zero) g there m less in
            b.refused (all k.0 g low k.1 p t.known.items U W are at also rel);
      }
