-- Values in types.
use Rattle.std.proofs.Common.{◌≡◌, ◌↔◌, ◌<◌, ◌≤◌, ◌+◌, ◌⊎◌, inl, inr, ℕ, List, length, get_or, Contains, Some, None, Bool, true, false, IsTrue, slice_get, refl, sym, ap, ◌∙◌, subst, arith}
use Rattle.std.specs.Prelude.{ℤ, IsSome, is_some}
use Rattle.std.proofs.lemmas.Bool.{cases_lt, false≢true}
use Rattle.std.proofs.lemmas.Option.{slice_get_read, slice_get_within, slice_get-get_or}
use Rattle.jn_reach.proofs.Searches.{same_some, iff_true, iff_false}
use Rattle.jn_base.specs.declared.tree.Name.{Name}
use Rattle.jn_base.specs.declared.tree.Program.{Program}
use Rattle.jn_base.specs.declared.types.Atom.{Atom as ShownAtom}
use Rattle.jn_base.specs.declared.types.Masks.{Masks}
use Rattle.jn_base.specs.declared.types.Ty.{Ty}
use Rattle.jn_base.specs.declared.types.Ty.TheVariants as ty
use Rattle.jn_base.specs.declared.path.Path.{Path as ShownPath}
use Rattle.jn_base.specs.Paths.{Path}
use Rattle.jn_table.specs.declared.class.Row.{Row}
use Rattle.jn_table.specs.Rows.{IsRow}
use Rattle.jn_sem.specs.Sets.{Views, InType}
use Rattle.jn_sem.specs.Values.{Value, Number, Truth, Null, Reference, ValueIn, number, truth, null, no_object, object, Masked, FieldsFilled}
use Rattle.jn_sem.specs.Slots.{Slot, IsSlot}
use Rattle.jn_sem.specs.State.{Heap, HasValue, slot_value}
use Rattle.jn_sem.specs.LawsOfFinding.{IsOne}
use Rattle.jn_share.proofs.FieldLists.{field_in, in_field}
use Rattle.jn_share.proofs.KeyLists.{at_in}
use Rattle.jn_meaning.specs.Typing.{TakesNull, OfClass}

-- ---- fields

module _ (p : Program) (h : Heap) (o : ℕ) (V : Path) (f : Name) where
  pub no_slot : ((s : Slot) → IsSlot p V f s → ⊥) → IsTrue false ↔ HasValue p h o V f
  no_slot n = iff_false (λ k. n k.slot k.is_slot)

  module _ (once : IsOne (IsSlot p V f)) (s : Slot) (is : IsSlot p V f s) where
    pub no_value : None ≡ slot_value h o s → IsTrue false ↔ HasValue p h o V f
    no_value e = iff_false (λ k. false≢true (ap is_some e ∙ subst (λ (z : Slot). IsSome (slot_value h o z)) (once k.slot s k.is_slot is) k.has))

    pub some_value : (v : Value) → Some v ≡ slot_value h o s → IsTrue true ↔ HasValue p h o V f
    some_value v e = iff_true (record { slot = s; is_slot = is; has = sym (ap is_some e) })

pub given_masked : (names : List Name) (m : Masks) (f : Name) (P : Type 0) → Masked names m f → IsTrue true ↔ ((Masked names m f → ⊥) → P)
given_masked names m f P k = iff_true (λ n. absurd (n k))

pub given_value : (names : List Name) (m : Masks) (f : Name) (P : Type 0) (told : Bool) → (Masked names m f → ⊥) → IsTrue told ↔ P → IsTrue told ↔ ((Masked names m f → ⊥) → P)
given_value names m f P told n i = (λ b _. i.0 b, λ h. i.1 (h n))

-- the first n fields have values, but for the masked ones
pub record FilledTo (names : List Name) (F : Name → Type 0) (m : Masks) (fields : List Name) (n : ℕ) : Type 0 where
  pub each : (j : ℕ) (f : Name) → j < n → slice_get fields j ≡ Some f → (Masked names m f → ⊥) → F f

module _ (names : List Name) (F : Name → Type 0) (m : Masks) (fields : List Name) where
  pub filled_first : FilledTo names F m fields 0
  filled_first = record { each = λ j f l. absurd (omega (arith, l)) }

  pub filled_more : (i : ℕ) (zero : Name) → i < length fields → ((Masked names m (get_or fields i zero) → ⊥) → F (get_or fields i zero)) → FilledTo names F m fields i
      → FilledTo names F m fields (i + 1)
  filled_more i zero l so all = record { each = λ j f b a. by_place j f a b (cases_lt j i) }
    where
      by_place : (j : ℕ) (f : Name) → slice_get fields j ≡ Some f → j < i + 1 → (j < i) ⊎ (i ≤ j) → (Masked names m f → ⊥) → F f
      by_place j f a b (inl c) = all.each j f c a
      by_place j f a b (inr c) =
          let k : j ≡ i = omega (arith, b, c) in
          let one : get_or fields i zero ≡ f = same_some (slice_get fields i) (get_or fields i zero) f (slice_get-get_or fields i zero l) (subst (λ (n : ℕ). slice_get fields n ≡ Some f) k a) in
          subst (λ (y : Name). (Masked names m y → ⊥) → F y) one so

  module _ (p : Program) (known : List ShownPath) (V : Path) (row : Row) (is : IsRow p known V row) (same : fields ≡ row.fields.items) where
    pub filled_all : (n : ℕ) → length fields ≤ n → FilledTo names F m fields n → FieldsFilled p names F m V
    filled_all n past all f h =
        let c : Contains fields f = subst (λ (xs : List Name). Contains xs f) (sym same) (field_in p known V row is f h) in
        let at : slice_get fields c.0 ≡ Some f = slice_get_read fields (length fields) c.0 f refl c.1 (sym c.2) in
        all.each c.0 f (omega (arith, past, slice_get_within fields c.0 f at)) at

    pub filled_not : (i : ℕ) (zero : Name) → i < length fields → (((Masked names m (get_or fields i zero) → ⊥) → F (get_or fields i zero)) → ⊥) → FieldsFilled p names F m V → ⊥
    filled_not i zero l n all =
        let x : Name = get_or fields i zero in
        let at : slice_get fields i ≡ Some x = slice_get-get_or fields i zero l in
        n (all x (in_field p known V row is x (at_in row.fields.items i x (subst (λ (xs : List Name). slice_get xs i ≡ Some x) same at))))

-- ---- values

module _ (p : Program) (names : List Name) (v : Views) (F : ℕ → Path → Name → Type 0) (t : Ty) where
  abbrev In : Value → Type 0
  In = ValueIn p names v F t

  abbrev InAs : Ty → Value → Type 0
  InAs = ValueIn p names v F

  pub number_told : (z : ℤ) (told : Bool) → IsTrue told ↔ (t ≡ ty.Int) → IsTrue told ↔ In (Number z)
  number_told z told i = (λ b. subst (λ (u : Ty). InAs u (Number z)) (sym (i.0 b)) number, λ k. i.1 (from t k))
    where
      from : (u : Ty) → InAs u (Number z) → u ≡ ty.Int
      from _ number = refl

  pub truth_told : (c told : Bool) → IsTrue told ↔ (t ≡ ty.Bool) → IsTrue told ↔ In (Truth c)
  truth_told c told i = (λ b. subst (λ (u : Ty). InAs u (Truth c)) (sym (i.0 b)) truth, λ k. i.1 (from t k))
    where
      from : (u : Ty) → InAs u (Truth c) → u ≡ ty.Bool
      from _ truth = refl

  pub null_told : (told : Bool) → IsTrue told ↔ TakesNull t → IsTrue told ↔ In Null
  null_told told i = (λ b. to t (i.0 b), λ k. i.1 (from t k))
    where
      to : (u : Ty) → TakesNull u → InAs u Null
      to (ty.Class xs m) k = no_object
      to ty.Null k = null
      to ty.Int k = absurd k
      to ty.Bool k = absurd k
      to ty.Void k = absurd k

      from : (u : Ty) → InAs u Null → TakesNull u
      from _ null = tt
      from _ no_object = tt

  module _ (o : ℕ) (V : Path) where
    filled_of : (xs : List ShownAtom) (m : Masks) → InAs (ty.Class xs m) (Reference o V) → FieldsFilled p names (F o V) m V
    filled_of xs m (object k f) = f

    type_of : (u : Ty) → InAs u (Reference o V) → InType p v u V
    type_of _ (object k f) = k

    pub outside : (InType p v t V → ⊥) → IsTrue false ↔ In (Reference o V)
    outside n = iff_false (λ k. n (type_of t k))

    pub plainly_outside : (u : Ty) → t ≡ u → (InType p v u V → ⊥) → IsTrue false ↔ In (Reference o V)
    plainly_outside u e n = iff_false (λ k. n (type_of u (subst (λ (z : Ty). InAs z (Reference o V)) e k)))

    pub object_told : (m : Masks) (told : Bool) → OfClass t m → InType p v t V → IsTrue told ↔ FieldsFilled p names (F o V) m V → IsTrue told ↔ In (Reference o V)
    object_told m told (xs, e) k i = (
      λ b. subst (λ (u : Ty). InAs u (Reference o V)) (sym e) (object (subst (λ (u : Ty). InType p v u V) e k) (i.0 b)),
      λ h. i.1 (filled_of xs m (subst (λ (u : Ty). InAs u (Reference o V)) e h)),
    )
