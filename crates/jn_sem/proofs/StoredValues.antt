-- Slots that are the same, and what a slot has once a value is put.
use Rattle.std.proofs.Common.{◌≡◌, ◌↔◌, suc, List, [], ◌∷◌, length, Option, Some, None, Bool, true, false, refl, sym, ap, ◌∙◌, subst}
use Rattle.std.proofs.lemmas.Bool.{eqb-true, eq-eqb}
use Rattle.std.specs.Prelude.{cond, nat_eq, ◌&&◌, IsSome}
use Rattle.std.specs.Option.{option_map}
use Rattle.std.specs.List.{find}
use Rattle.jn_base.specs.declared.tree.Name.{Name}
use Rattle.jn_base.specs.Paths.{Path}
use Rattle.jn_sem.specs.Values.{Value}
use Rattle.jn_sem.specs.Slots.{Slot}
use Rattle.jn_sem.specs.State.{Stored, same_names, same_slot, stored_value, with_stored}

-- ---- names, and slots

and_left : (a b : Bool) → a && b ≡ true → a ≡ true
and_left true b e = refl
and_left false b e = cc

and_right : (a b : Bool) → a && b ≡ true → b ≡ true
and_right true b e = e
and_right false b e = cc

both : (a b : Bool) → a ≡ true → b ≡ true → a && b ≡ true
both true b e f = f
both false b e f = cc

equal_names : (x y : Name) → nat_eq x.0 y.0 ≡ true → x ≡ y
equal_names x y e i = record { 0 = eqb-true x.0 y.0 e i }

names_equal : (xs ys : Path) → same_names xs ys ≡ true → xs ≡ ys
names_equal [] [] e = refl
names_equal [] (y ∷ ys) e = cc
names_equal (x ∷ xs) [] e = cc
names_equal (x ∷ xs) (y ∷ ys) e =
    ap (λ (n : Name). n ∷ xs) (equal_names x y (and_left (nat_eq x.0 y.0) (same_names xs ys) e))
    ∙ ap (λ (zs : Path). y ∷ zs) (names_equal xs ys (and_right (nat_eq x.0 y.0) (same_names xs ys) e))

names_same : (xs : Path) → same_names xs xs ≡ true
names_same [] = refl
names_same (x ∷ xs) = both (nat_eq x.0 x.0) (same_names xs xs) (eq-eqb x.0 x.0 refl) (names_same xs)

pub slots_equal : (s t : Slot) → same_slot s t ≡ true → s ≡ t
slots_equal s t e i = record {
  class = names_equal s.class t.class (and_left (same_names s.class t.class) (nat_eq s.field.0 t.field.0) e) i;
  field = equal_names s.field t.field (and_right (same_names s.class t.class) (nat_eq s.field.0 t.field.0) e) i;
}

pub slot_same : (s : Slot) → same_slot s s ≡ true
slot_same s = both (same_names s.class s.class) (nat_eq s.field.0 s.field.0) (names_same s.class) (eq-eqb s.field.0 s.field.0 refl)

pub same_slots : (s t : Slot) → same_slot s t ≡ true ↔ s ≡ t
same_slots s t = (slots_equal s t, λ e. subst (λ (u : Slot). same_slot s u ≡ true) e (slot_same s))

-- ---- values

abbrev value_in : Stored → Value
value_in x = x.value

abbrev found_in : Bool → Stored → List Stored → Slot → Option Value
found_in b x xs t = option_map value_in (cond b (Some x) (find (λ (y : Stored). same_slot y.slot t) xs))

first_case : (b : Bool) (x : Stored) (xs : List Stored) (t : Slot) → found_in b x xs t ≡ cond b (Some x.value) (stored_value xs t)
first_case true x xs t = refl
first_case false x xs t = refl

-- the first entry counts where it is of the slot
of_first : (x : Stored) (xs : List Stored) (t : Slot) → stored_value (x ∷ xs) t ≡ cond (same_slot x.slot t) (Some x.value) (stored_value xs t)
of_first x xs t = first_case (same_slot x.slot t) x xs t

over_it : (b : Bool) (u v : Value) (o : Option Value) → cond b (Some v) o ≡ cond b (Some v) (cond b (Some u) o)
over_it true u v o = refl
over_it false u v o = refl

-- two tests that don't hold together may be asked in either order
either_order : (a b : Bool) (u v : Value) (o : Option Value) → (a ≡ true → b ≡ true → ⊥)
    → cond a (Some u) (cond b (Some v) o) ≡ cond b (Some v) (cond a (Some u) o)
either_order true true u v o apart = absurd (apart refl refl)
either_order true false u v o apart = refl
either_order false b u v o apart = refl

not_both : (x s t : Slot) → same_slot x s ≡ false → same_slot x t ≡ true → same_slot s t ≡ true → ⊥
not_both x s t apart a b = differ (same_slot x s) apart (subst (λ (u : Slot). same_slot x u ≡ true) (slots_equal x t a ∙ sym (slots_equal s t b)) (slot_same x)) where
  differ : (c : Bool) → c ≡ false → c ≡ true → ⊥
  differ true e f = cc
  differ false e f = cc

-- a slot has the value that was put there last, and each other slot has what it had
pub stored_with : (xs : List Stored) (s t : Slot) (v : Value) → stored_value (with_stored xs s v) t ≡ cond (same_slot s t) (Some v) (stored_value xs t)
stored_with [] s t v = of_first (record { slot = s; value = v }) [] t
stored_with (x ∷ xs) s t v = at (stored_with xs s t v) (same_slot x.slot s) refl where
  at : stored_value (with_stored xs s v) t ≡ cond (same_slot s t) (Some v) (stored_value xs t) → (b : Bool) → same_slot x.slot s ≡ b → stored_value (cond b (record x { value = v } ∷ xs) (x ∷ with_stored xs s v)) t
      ≡ cond (same_slot s t) (Some v) (stored_value (x ∷ xs) t)
  at again true e =
      of_first (record x { value = v }) xs t
      ∙ ap (λ (u : Slot). cond (same_slot u t) (Some v) (stored_value xs t)) (slots_equal x.slot s e)
      ∙ over_it (same_slot s t) x.value v (stored_value xs t)
      ∙ ap (λ (u : Slot). cond (same_slot s t) (Some v) (cond (same_slot u t) (Some x.value) (stored_value xs t))) (sym (slots_equal x.slot s e))
      ∙ ap (cond (same_slot s t) (Some v)) (sym (of_first x xs t))
  at again false e =
      of_first x (with_stored xs s v) t
      ∙ ap (cond (same_slot x.slot t) (Some x.value)) again
      ∙ either_order (same_slot x.slot t) (same_slot s t) x.value v (stored_value xs t) (not_both x.slot s t e)
      ∙ ap (cond (same_slot s t) (Some v)) (sym (of_first x xs t))

-- a slot that has a value gets the new one in its place
pub size_kept : (xs : List Stored) (s : Slot) (v : Value) → IsSome (stored_value xs s) → length (with_stored xs s v) ≡ length xs
size_kept [] s v h = absurd (none h) where
  none : IsSome (option_map value_in None) → ⊥
  none k = cc
size_kept (x ∷ xs) s v h = at (size_kept xs s v) (same_slot x.slot s) refl where
  there : (b : Bool) → b ≡ false → IsSome (cond b (Some x.value) (stored_value xs s)) → IsSome (stored_value xs s)
  there true e k = cc
  there false e k = k

  at : (IsSome (stored_value xs s) → length (with_stored xs s v) ≡ length xs) → (b : Bool) → same_slot x.slot s ≡ b → length (cond b (record x { value = v } ∷ xs) (x ∷ with_stored xs s v)) ≡ suc (length xs)
  at again true e = refl
  at again false e = ap suc (again (there (same_slot x.slot s) e (subst IsSome (of_first x xs s) h)))

-- and none loses its value
pub one_stored : (s t : Slot) (v : Value) (xs : List Stored) → IsSome (stored_value xs t) → IsSome (stored_value (with_stored xs s v) t)
one_stored s t v xs h = subst IsSome (sym (stored_with xs s t v)) (at (same_slot s t)) where
  at : (b : Bool) → IsSome (cond b (Some v) (stored_value xs t))
  at true = refl
  at false = h
