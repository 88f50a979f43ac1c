-- Values in their slots, by their places.
use Rattle.std.proofs.Common.{◌≡◌, ℕ, zero, suc, List, [], ◌∷◌, ◌++◌, map, Option, Some, None, Bool, true, false, refl, sym, ap, ◌∙◌, subst, arith}
use Rattle.std.specs.Prelude.{cond, slice_get, slice_set, nat_eq, ◌&&◌}
use Rattle.std.proofs.lemmas.Bool.{eqb-true, eq-eqb}
use Rattle.jn_base.specs.declared.tree.Name.{Name}
use Rattle.jn_base.specs.Paths.{Path}
use Rattle.std.specs.Option.{option_map, option_and_then}
use Rattle.jn_base.specs.declared.path.Path.{Path as ShownPath}
use Rattle.jn_sem.specs.Values as value
use Rattle.jn_sem.specs.State.{Stored, same_names, stored_value, with_stored, slot_value, with_slot}
use Rattle.jn_sem.specs.State as state
use Rattle.jn_meaning.specs.declared.heap.Slot.{Slot}
use Rattle.jn_meaning.specs.declared.heap.Kept.{Kept}
use Rattle.jn_meaning.specs.declared.heap.Object.{Object}
use Rattle.jn_meaning.specs.declared.heap.Heap.{Heap}
use Rattle.jn_meaning.specs.declared.value.Value.{Value}
use Rattle.jn_meaning.specs.Values.{path_at, value_of}
use Rattle.jn_meaning.specs.Heaps.{slot_of, stored_of, object_of, heap_of, is_for, NoneBefore, IsFirstFor, StoredAt}

module _ (known : List ShownPath) (s : Slot) where
  abbrev none_in : List Kept → Type 0
  none_in xs = (k : ℕ) (x : Kept) → slice_get xs k ≡ Some x → is_for known s x ≡ false

  abbrev value_in : Stored → value.Value
  value_in x = x.value

  first_value : (b c : Bool) (x : Stored) (o : Option Stored) → b ≡ c → option_map value_in (cond b (Some x) o) ≡ cond c (Some x.value) (option_map value_in o)
  first_value b true x o e = ap (λ (d : Bool). option_map value_in (cond d (Some x) o)) e
  first_value b false x o e = ap (λ (d : Bool). option_map value_in (cond d (Some x) o)) e

  pub no_value : (xs : List Kept) → none_in xs → stored_value (map (stored_of known) xs) (slot_of known s) ≡ None
  no_value [] n = refl
  no_value (x ∷ xs) n =
      first_value (is_for known s x) false (stored_of known x) _ (n zero x refl) ∙ no_value xs (λ k y e. n (suc k) y e)

  later_none : (x : Kept) (xs : List Kept) (i : ℕ) → NoneBefore known (x ∷ xs) s (suc i) → NoneBefore known xs s i
  later_none x xs i n k y l e = n (suc k) y (omega (arith, l)) e

  pub value_at_place : (xs : List Kept) (i : ℕ) (x : Kept) → slice_get xs i ≡ Some x → is_for known s x ≡ true → NoneBefore known xs s i
      → stored_value (map (stored_of known) xs) (slot_of known s) ≡ Some (value_of known x.value)
  value_at_place [] i x e b n = absurd (cc)
  value_at_place (y ∷ xs) zero x e b n =
      first_value (is_for known s y) true (stored_of known y) _ (same_first e) ∙ ap (option_map (λ (z : Kept). value_of known z.value)) e
    where
      same_first : Some y ≡ Some x → is_for known s y ≡ true
      same_first h = let q : y ≡ x = cc in ap (is_for known s) q ∙ b
  value_at_place (y ∷ xs) (suc i) x e b n =
      first_value (is_for known s y) false (stored_of known y) _ (n zero y (omega arith) refl) ∙ value_at_place xs i x e b (later_none y xs i n)

  module _ (v : Value) where
    abbrev new : Kept
    new = record { slot = s; value = v }

    first_stored : (b c : Bool) (xs ys : List Stored) → b ≡ c → cond b xs ys ≡ cond c xs ys
    first_stored b c xs ys e = ap (λ (d : Bool). cond d xs ys) e

    pub put_last : (xs : List Kept) → none_in xs
        → map (stored_of known) (xs ++ new ∷ []) ≡ with_stored (map (stored_of known) xs) (slot_of known s) (value_of known v)
    put_last [] n = refl
    put_last (x ∷ xs) n =
        ap (λ (ys : List Stored). stored_of known x ∷ ys) (put_last xs (λ k y e. n (suc k) y e))
        ∙ sym (first_stored (is_for known s x) false _ _ (n zero x refl))

    pub put_there : (xs : List Kept) (i : ℕ) (x : Kept) → slice_get xs i ≡ Some x → is_for known s x ≡ true → NoneBefore known xs s i
        → map (stored_of known) (slice_set xs i (record { slot = x.slot; value = v })) ≡ with_stored (map (stored_of known) xs) (slot_of known s) (value_of known v)
    put_there [] i x e b n = absurd (cc)
    put_there (y ∷ xs) zero x e b n =
        let q : y ≡ x = cc in
        ap (λ (z : Kept). stored_of known (record { slot = z.slot; value = v }) ∷ map (stored_of known) xs) (sym q)
        ∙ sym (first_stored (is_for known s y) true _ _ (ap (is_for known s) q ∙ b))
    put_there (y ∷ xs) (suc i) x e b n =
        ap (λ (ys : List Stored). stored_of known y ∷ ys) (put_there xs i x e b (later_none y xs i n))
        ∙ sym (first_stored (is_for known s y) false _ _ (n zero y (omega arith) refl))

  -- ---- objects

  pub objects_at : (xs : List Object) (o : ℕ) (x : Object) → slice_get xs o ≡ Some x → slice_get (map (object_of known) xs) o ≡ Some (object_of known x)
  objects_at [] o x e = absurd (cc)
  objects_at (y ∷ xs) zero x e = ap (option_map (object_of known)) e
  objects_at (y ∷ xs) (suc o) x e = objects_at xs o x e

  pub no_object : (xs : List Object) (o : ℕ) → slice_get xs o ≡ None → slice_get (map (object_of known) xs) o ≡ None
  no_object [] o e = refl
  no_object (y ∷ xs) zero e = absurd (cc)
  no_object (y ∷ xs) (suc o) e = no_object xs o e

  objects_set : (xs : List Object) (o : ℕ) (x : Object) → map (object_of known) (slice_set xs o x) ≡ slice_set (map (object_of known) xs) o (object_of known x)
  objects_set [] o x = refl
  objects_set (y ∷ xs) zero x = refl
  objects_set (y ∷ xs) (suc o) x = ap (λ (ys : List state.Object). object_of known y ∷ ys) (objects_set xs o x)

  pub value_of_object : (h : Heap) (o : ℕ) (x : Object) (told : Option Value) → slice_get h.objects.items o ≡ Some x
      → option_map (value_of known) told ≡ stored_value (map (stored_of known) x.stored.items) (slot_of known s)
      → option_map (value_of known) told ≡ slot_value (heap_of known h) o (slot_of known s)
  value_of_object h o x told e q =
      q ∙ sym (ap (option_and_then (λ (y : state.Object). stored_value y.stored (slot_of known s))) (objects_at h.objects.items o x e))

  pub value_of_none : (h : Heap) (o : ℕ) → slice_get h.objects.items o ≡ None → None ≡ slot_value (heap_of known h) o (slot_of known s)
  value_of_none h o e = sym (ap (option_and_then (λ (y : state.Object). stored_value y.stored (slot_of known s))) (no_object h.objects.items o e))

  -- ---- what calls say

  pub value_told : (xs : List Kept) (i : ℕ) (x : Kept) → IsFirstFor known xs s (Some i) → slice_get xs i ≡ Some x
      → Some (value_of known x.value) ≡ stored_value (map (stored_of known) xs) (slot_of known s)
  value_told xs i x f e =
      let g = f.0.at in
      let q : f.0.kept ≡ x = cc in
      sym (value_at_place xs i x e (ap (is_for known s) (sym q) ∙ f.0.same) f.1)

  pub put_told : (xs ys : List Kept) (i : ℕ) (x : Kept) (v : Value) → ys ≡ xs → IsFirstFor known ys s (Some i) → slice_get xs i ≡ Some x
      → map (stored_of known) (slice_set xs i (record { slot = x.slot; value = v })) ≡ with_stored (map (stored_of known) xs) (slot_of known s) (value_of known v)
  put_told xs ys i x v same f e =
      let g : IsFirstFor known xs s (Some i) = subst (λ (zs : List Kept). IsFirstFor known zs s (Some i)) same f in
      let h = g.0.at in
      let q : g.0.kept ≡ x = cc in
      put_there v xs i x e (ap (is_for known s) (sym q) ∙ g.0.same) g.1

  pub last_told : (xs ys zs : List Kept) (v : Value) → ys ≡ xs → IsFirstFor known ys s None → zs ≡ xs ++ record { slot = s; value = v } ∷ []
      → map (stored_of known) zs ≡ with_stored (map (stored_of known) xs) (slot_of known s) (value_of known v)
  last_told xs ys zs v same f e =
      ap (map (stored_of known)) e ∙ put_last v xs (subst (λ (us : List Kept). none_in us) same f)

  pub store_told : (h : Heap) (o : ℕ) (x y : Object) (i : Heap) (v : Value) → slice_get h.objects.items o ≡ Some x → y.made ≡ x.made
      → map (stored_of known) y.stored.items ≡ with_stored (map (stored_of known) x.stored.items) (slot_of known s) (value_of known v)
      → i.objects.items ≡ slice_set h.objects.items o y → i.used ≡ h.used → StoredAt known h i o s v
  store_told h o x y i v e made stored objects used = record {
    object = object_of known x;
    at = objects_at h.objects.items o x e;
    is = λ k. record { objects = all k; used = used k };
  }
    where
      new : object_of known y ≡ record (object_of known x) { stored = with_stored (map (stored_of known) x.stored.items) (slot_of known s) (value_of known v) }
      new k = record { made = path_at known (made k); stored = stored k }

      all : map (object_of known) i.objects.items
          ≡ slice_set (map (object_of known) h.objects.items) o (record (object_of known x) { stored = with_stored (map (stored_of known) x.stored.items) (slot_of known s) (value_of known v) })
      all = ap (map (object_of known)) objects ∙ objects_set h.objects.items o y ∙ ap (slice_set (map (object_of known) h.objects.items) o) new

-- ---- slots compared

names_same : (xs : Path) → same_names xs xs ≡ true
names_same [] = refl
names_same (x ∷ xs) = ap (λ (b : Bool). b && same_names xs xs) (eq-eqb x.0 x.0 refl) ∙ names_same xs

names_left : (a b : Bool) → a && b ≡ true → a ≡ true
names_left true b e = refl
names_left false b e = cc

names_right : (a b : Bool) → a && b ≡ true → b ≡ true
names_right true b e = e
names_right false b e = cc

equal_name : (x y : Name) → nat_eq x.0 y.0 ≡ true → x ≡ y
equal_name x y e i = record { 0 = eqb-true x.0 y.0 e i }

names_equal : (xs ys : Path) → same_names xs ys ≡ true → xs ≡ ys
names_equal [] [] e = refl
names_equal [] (y ∷ ys) e = cc
names_equal (x ∷ xs) [] e = cc
names_equal (x ∷ xs) (y ∷ ys) e =
    ap (λ (n : Name). n ∷ xs) (equal_name x y (names_left (nat_eq x.0 y.0) (same_names xs ys) e))
    ∙ ap (λ (zs : Path). y ∷ zs) (names_equal xs ys (names_right (nat_eq x.0 y.0) (same_names xs ys) e))

names_other : (b : Bool) → (b ≡ true → ⊥) → b ≡ false
names_other true n = absurd (n refl)
names_other false n = refl

pub same_path_slot : (P Q : Path) (b : Bool) → P ≡ Q → b ≡ (same_names P Q && b)
same_path_slot P Q b e = sym (ap (λ (c : Bool). c && b) (subst (λ (R : Path). same_names P R ≡ true) e (names_same P)))

pub other_path_slot : (P Q : Path) (b told : Bool) → (P ≡ Q → ⊥) → told ≡ false → told ≡ (same_names P Q && b)
other_path_slot P Q b told n e = e ∙ sym (ap (λ (c : Bool). c && b) (names_other (same_names P Q) (λ h. n (names_equal P Q h))))
