-- A new object: each of its fields has its zero, and fits each view of the object.
use Rattle.std.proofs.Common.{◌≡◌, ℕ, zero, suc, List, [], ◌∷◌, ◌++◌, length, Option, Some, None, Bool, true, false, refl, sym, ap, ◌∙◌, subst, ◌⊎◌, inl, inr}
use Rattle.std.specs.Prelude.{IsSome, cond, slice_get}
use Rattle.std.specs.Option.{option_map, option_and_then}
use Rattle.std.specs.List.{find}
use Rattle.jn_reach.specs.Each.{Each, none as no_more, more}
use Rattle.jn_base.specs.declared.tree.Name.{Name}
use Rattle.jn_base.specs.declared.tree.Program.{Program}
use Rattle.jn_base.specs.declared.types.Ty.{Ty}
use Rattle.jn_base.specs.declared.types.Ty.TheVariants as ty
use Rattle.jn_base.specs.Paths.{Path}
use Rattle.jn_base.specs.Atoms.{Among, first, later}
use Rattle.jn_sem.specs.Values.{Value, Number, Truth, Null, HasField, number, truth, no_object}
use Rattle.jn_sem.specs.Sharing.{IsClass, Related}
use Rattle.jn_sem.specs.Slots.{FieldType, IsSlot, Slot, this_viewed}
use Rattle.jn_sem.specs.State.{Stored, Object, Heap, HasValue, IsIn, same_slot, stored_value, with_object}
use Rattle.jn_sem.specs.Does.{IsFresh, AreFresh, zero_of}
use Rattle.jn_sem.specs.LawsOfHeaps.{Later}
use Rattle.jn_sem.proofs.FindingLaws.{among_of}
use Rattle.jn_sem.proofs.HeapLaws.{later_object}
use Rattle.jn_sem.proofs.SharedLaws.{sharing_laws}
use Rattle.jn_sem.proofs.StoredValues.{slots_equal, slot_same}
use Rattle.jn_laws.specs.LawsOfWritten.{IsWritten}
use Rattle.jn_laws.specs.Reading.{SlotFits, ReadAs, itself, plain, RefersTo}
use Rattle.jn_laws.proofs.WrittenTypes.{written_kinds}
use Rattle.jn_sound.specs.Sound.{HeapFits}
use Rattle.jn_sound.proofs.Laws.{Laws}
use Rattle.jn_sound.proofs.Ways.{surely}
use Rattle.jn_sound.proofs.Extras.{slot_later_fits}

-- ---- zeros

number_fits : (p : Program) (h : Heap) (V : Path) (w : Value) (z : _) → ReadAs p V ty.Int (Number z) w
    → IsIn p (this_viewed V) h ty.Int w
number_fits p h V _ z (itself n) = number
number_fits p h V _ z (plain e) = number

truth_fits : (p : Program) (h : Heap) (V : Path) (w : Value) (b : Bool) → ReadAs p V ty.Bool (Truth b) w
    → IsIn p (this_viewed V) h ty.Bool w
truth_fits p h V _ b (itself n) = truth
truth_fits p h V _ b (plain e) = truth

null_fits : (p : Program) (h : Heap) (V : Path) (w : Value) (xs : _) (m : _) → ReadAs p V (ty.Class xs m) Null w
    → IsIn p (this_viewed V) h (ty.Class xs m) w
null_fits p h V _ xs m (itself n) = no_object
null_fits p h V _ xs m (plain e) = no_object

zero_fits : (p : Program) (h : Heap) (V : Path) (t : Ty) → IsWritten t → SlotFits p h V t (zero_of t)
zero_fits p h V ty.Int w =
    record { real = tt; read = surely (_, plain refl); fits = λ v r. surely (number_fits p h V v _ r) }
zero_fits p h V ty.Bool w =
    record { real = tt; read = surely (_, plain refl); fits = λ v r. surely (truth_fits p h V v _ r) }
zero_fits p h V (ty.Class xs m) w =
    record { real = tt; read = surely (_, plain refl); fits = λ v r. surely (null_fits p h V v xs m r) }
zero_fits p h V ty.Null w = absurd w
zero_fits p h V ty.Void w = absurd w

-- ---- the last object

got_new : (xs : List Object) (x : Object) → slice_get (xs ++ x ∷ []) (length xs) ≡ Some x
got_new [] x = refl
got_new (y ∷ ys) x = got_new ys x

got_cases : (xs : List Object) (x : Object) (o : ℕ) (y : Object) → slice_get (xs ++ x ∷ []) o ≡ Some y
    → (slice_get xs o ≡ Some y) ⊎ (x ≡ y)
got_cases [] x zero y e = inr (same e) where
  same : Some x ≡ Some y → x ≡ y
  same e = cc
got_cases [] x (suc o) y e = absurd (nothing o e) where
  nothing : (o : ℕ) → slice_get [] o ≡ Some y → ⊥
  nothing zero e = cc
  nothing (suc o) e = cc
got_cases (z ∷ zs) x zero y e = inl e
got_cases (z ∷ zs) x (suc o) y e = got_cases zs x o y e

-- ---- its values

-- the value of a slot is a field's zero
record ZeroOf (p : Program) (V : Path) (s : Slot) (v : Value) : Type 0 where
  pub field : Name
  pub stored : Stored
  pub fresh : IsFresh p V field stored
  pub slot : stored.slot ≡ s
  pub value : stored.value ≡ v

zero_found : (p : Program) (V : Path) (names : List Name) (xs : List Stored) (s : Slot) (v : Value)
    → Each (IsFresh p V) names xs → stored_value xs s ≡ Some v → ZeroOf p V s v
zero_found p V _ _ s v no_more e = absurd (no e) where
  no : option_map (λ (x : Stored). x.value) None ≡ Some v → ⊥
  no e = cc
zero_found p V _ _ s v (more {x = f} {y = x} {xs = fs} {ys = ys} r rs) e =
    at (same_slot x.slot s) refl e (zero_found p V fs ys s v rs) where
      same : Some x.value ≡ Some v → x.value ≡ v
      same e = cc

      at : (b : Bool) → same_slot x.slot s ≡ b
          → option_map (λ (z : Stored). z.value) (cond b (Some x) (find (λ
          (z : Stored). same_slot z.slot s) ys)) ≡ Some v
          → (stored_value ys s ≡ Some v → ZeroOf p V s v) → ZeroOf p V s v
      at true i e again = record { field = f; stored = x; fresh = r; slot = slots_equal x.slot s i; value = same e }
      at false i e again = again e

fresh_at : (p : Program) (V : Path) (names : List Name) (xs : List Stored) (g : Name)
    → Each (IsFresh p V) names xs → Among names g → (x : Stored) × Among xs x × IsFresh p V g x
fresh_at p V _ _ g no_more m = elim m [ ]
fresh_at p V _ _ g (more {x = f} {y = x} {xs = fs} {ys = ys} r rs) m = at g m refl (fresh_at p V fs ys g rs) where
  at : (k : Name) → Among (f ∷ fs) k → k ≡ g → (Among fs g → (z : Stored) × Among ys z × IsFresh p V g z)
      → (z : Stored) × Among (x ∷ ys) z × IsFresh p V g z
  at _ first e again = (x, first, subst (λ (k : Name). IsFresh p V k x) e r)
  at k (later n) e again = let z = again (subst (Among fs) e n) in (z.0, later z.1, z.2)

some_value : (xs : List Stored) (x : Stored) → Among xs x → IsSome (stored_value xs x.slot)
some_value _ x (first {xs = xs}) =
    subst (λ (b : Bool). IsSome (option_map (λ (z : Stored). z.value)
    (cond b (Some x) (find (λ (z : Stored). same_slot z.slot x.slot) xs)))) (sym (slot_same x.slot)) refl
some_value _ x (later {y = y} {xs = xs} a) = at (same_slot y.slot x.slot) (some_value xs x a) where
  at : (b : Bool) → IsSome (stored_value xs x.slot)
      → IsSome (option_map (λ (z : Stored). z.value)
      (cond b (Some y) (find (λ (z : Stored). same_slot z.slot x.slot) xs)))
  at true i = refl
  at false i = i

-- ---- the heap with it

pub record MadeAt (p : Program) (h : Heap) (size : ℕ) (V : Path) (xs : List Stored) : Type 0 where
  pub heap : HeapFits p (with_object h size (record { made = V; stored = xs }))
  pub later : Later h (with_object h size (record { made = V; stored = xs }))
  pub refers : RefersTo p (with_object h size (record { made = V; stored = xs })) (length h.objects) V
  pub filled : (g : Name) → HasField p V g
      → HasValue p (with_object h size (record { made = V; stored = xs })) (length h.objects) V g

pub made_at : (p : Program) → Laws p → (h : Heap) (size : ℕ) (V : Path) (xs : List Stored) → HeapFits p h
    → IsClass p V → AreFresh p V xs → MadeAt p h size V xs
made_at p n h size V xs hf class fresh = record {
  heap = record { slots = slots; classes = classes };
  later = later_object h size x;
  refers = record { object = x; at = got_new h.objects x; related = (sharing_laws p).itself V class };
  filled = filled;
} where
  x : Object
  x = record { made = V; stored = xs }

  i : Heap
  i = with_object h size (record { made = V; stored = xs })

  new : (W : Path) (f : Name) (s : Slot) (t : Ty) (v : Value) → FieldType p W f t → IsSlot p W f s
      → ZeroOf p V s v → SlotFits p (with_object h size (record { made = V; stored = xs })) W t v
  new W f s t v d is z =
      let own : IsSlot p V z.field s = subst (λ (u : Slot). IsSlot p V z.field u) z.slot z.fresh.slot in
      let one : f ≡ z.field = n.stores.field W V f z.field s is own in
      let same : t ≡ z.fresh.ty = n.stores.type W V z.field s t z.fresh.ty
      (subst (λ (g : Name). IsSlot p W g s) one is) own
      (subst (λ (g : Name). FieldType p W g t) one d) z.fresh.type in
      subst (SlotFits p i W t) (ap zero_of same ∙ sym z.fresh.value ∙ z.value)
      (zero_fits p i W t ((written_kinds p).of_field d.class f d.field.ty t d.type))

  slots : (o : ℕ) (y : Object) (W : Path) (f : Name) (s : Slot) (t : Ty) (v : Value)
      → slice_get (h.objects ++ record { made = V; stored = xs } ∷ []) o ≡ Some y → Related p y.made W
      → FieldType p W f t → IsSlot p W f s → stored_value y.stored s ≡ Some v → SlotFits p
      (with_object h size (record { made = V; stored = xs })) W t v
  slots o y W f s t v e r d is g = at (got_cases h.objects x o y e) where
    at : (slice_get h.objects o ≡ Some y) ⊎ (x ≡ y)
        → SlotFits p (with_object h size (record { made = V; stored = xs })) W t v
    at (inl k) = slot_later_fits p h i W t v (later_object h size x) (hf.slots o y W f s t v k r d is g)
    at (inr k) =
        new W f s t v d is (zero_found p V fresh.names xs s v fresh.each
        (subst (λ (z : Object). stored_value z.stored s ≡ Some v) (sym k) g))

  classes : (o : ℕ) (y : Object) → slice_get (h.objects ++ record { made = V; stored = xs } ∷ []) o ≡ Some y
      → IsClass p y.made
  classes o y e = at (got_cases h.objects x o y e) where
    at : (slice_get h.objects o ≡ Some y) ⊎ (x ≡ y) → IsClass p y.made
    at (inl k) = hf.classes o y k
    at (inr k) = subst (λ (z : Object). IsClass p z.made) k class

  filled : (g : Name) → HasField p V g
      → HasValue p (with_object h size (record { made = V; stored = xs })) (length h.objects) V g
  filled g has =
      let z = fresh_at p V fresh.names xs g fresh.each (among_of fresh.names g ((fresh.exact g).1 has)) in
      record {
        slot = z.0.slot;
        is_slot = z.2.slot;
        has =
            subst (λ (o : Option Object). IsSome (option_and_then (λ (y : Object). stored_value y.stored z.0.slot) o))
            (sym (got_new h.objects x)) (some_value xs z.0 z.1);
      }
