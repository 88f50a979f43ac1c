-- Three lemmas that later acts need: of finitely many things at once; of constraints with `this` at a class; of a
-- store.
use Rattle.std.proofs.Common.{◌≡◌, ℕ, zero, suc, List, [], ◌∷◌, ◌++◌, Option, Some, Bool, true, false, refl, sym, ap, ◌∙◌, subst, ◌⊎◌, inl, inr}
use Rattle.std.specs.Prelude.{drop, cond, slice_get, slice_set, unwrap_or}
use Rattle.std.proofs.lemmas.List.{append-nil}
use Rattle.jn_base.specs.declared.tree.Name.{Name}
use Rattle.jn_base.specs.declared.tree.Program.{Program}
use Rattle.jn_base.specs.declared.types.Anchor.{Anchor}
use Rattle.jn_base.specs.declared.types.Anchor.TheVariants.{Root, Up}
use Rattle.jn_base.specs.declared.types.Ty.{Ty}
use Rattle.jn_base.specs.Paths.{Path}
use Rattle.jn_base.specs.Atoms.{Atom, Among, first, later}
use Rattle.jn_sem.specs.Sets.{Views, view_at, eval, Inside, InAtom}
use Rattle.jn_sem.specs.Holds.{rooted_at, rooted}
use Rattle.jn_sem.specs.Values.{Value}
use Rattle.jn_sem.specs.Sharing.{Related, IsClass}
use Rattle.jn_sem.specs.Slots.{FieldType, IsSlot, Slot, this_viewed}
use Rattle.jn_sem.specs.Sets.{no_views}
use Rattle.jn_sem.specs.State.{Stored, Object, Heap, same_slot, stored_value, with_slot, with_stored}
use Rattle.jn_sem.specs.LawsOfHeaps.{Later}
use Rattle.jn_sem.proofs.HeapLaws.{heap_laws}
use Rattle.jn_sound.specs.Sound.{HeapFits}
use Rattle.jn_sound.proofs.Ways.{surely, and_so}
use Rattle.jn_sound.proofs.Frames.{real_later}
use Rattle.jn_laws.specs.Surely.{Surely}
use Rattle.jn_laws.specs.Reading.{SlotFits}

-- of finitely many
pub surely_each : {A : Type 0} {T : A → Type 0} (xs : List A) → ((x : A) → Among xs x → Surely (T x))
    → Surely ((x : A) → Among xs x → T x)
surely_each [] each = surely (λ x a. elim a [ ])
surely_each {A} {T} (y ∷ ys) each =
    and_so (each y first) (λ t. and_so (surely_each ys (λ x a. each x (later a)))
    (λ r. surely (λ x a. at t r x a))) where
      at : T y → ((x : A) → Among ys x → T x) → (x : A) → Among (y ∷ ys) x → T x
      at t r _ first = t
      at t r x (later a) = r x a

-- a type that mentions `this` alone, with `this` at the class R: no state is needed
pub rooted_in : (p : Program) (v : Views) (R : Path) (x : Atom) (V : Path) → v 0 ≡ Some R
    → ((q k : ℕ) → x.anchor ≡ Up q k → q ≡ 0) → InAtom p v x V → InAtom p no_views (rooted_at R x) V
rooted_in p v R x V e this i = at x.anchor refl this i.inside where
  at : (a : Anchor) → x.anchor ≡ a → ((q k : ℕ) → a ≡ Up q k → q ≡ 0)
      → Inside p V (x.exact ++ eval v x.anchor) x.names → InAtom p no_views (rooted R x a) V
  at Root k own n = record {
    seen = subst (λ (b : Anchor). Rattle.jn_sem.specs.Sets.AnchorSeen no_views b) (sym k) tt;
    inside = subst (λ (E : Path). Inside p V (x.exact ++ E) x.names) (ap (eval v) k ∙ sym (ap (eval no_views) k)) n;
  }
  at (Up q k) a own n =
      record {
        seen = tt;
        inside = subst (λ (E : Path). Inside p V E x.names)
            (ap (λ (E : Path). x.exact ++ E) value ∙ sym (append-nil (x.exact ++ drop k R))) n;
      } where
        value : eval v x.anchor ≡ drop k R
        value =
            ap (eval v) a ∙ ap (λ (z : ℕ). drop k (view_at v z)) (own q k refl) ∙ ap
            (λ (o : Option Path). drop k (unwrap_or o [])) e

-- ---- a store

pub slot_later_fits : (p : Program) (h i : Heap) (V : Path) (t : Ty) (v : Value) → Later h i
    → SlotFits p h V t v → SlotFits p i V t v
slot_later_fits p h i V t v l s =
    record {
      real = real_later p h i v l s.real;
      read = s.read;
      fits = λ w r. and_so (s.fits w r)
          (λ k. surely ((heap_laws.heaps p).types (this_viewed V) h i t w l k));
    }

-- the object under a number after one was put
set_cases : (xs : List Object) (i o : ℕ) (z x : Object) → slice_get (slice_set xs i z) o ≡ Some x
    → (slice_get xs o ≡ Some x) ⊎ ((o ≡ i) × (z ≡ x))
set_cases [] zero o z x e = inl e
set_cases [] (suc i) o z x e = inl e
set_cases (y ∷ ys) zero zero z x e = inr (refl, same e) where
  same : Some z ≡ Some x → z ≡ x
  same e = cc
set_cases (y ∷ ys) zero (suc o) z x e = inl e
set_cases (y ∷ ys) (suc i) zero z x e = inl e
set_cases (y ∷ ys) (suc i) (suc o) z x e = at (set_cases ys i o z x e) where
  at : (slice_get ys o ≡ Some x) ⊎ ((o ≡ i) × (z ≡ x)) → (slice_get ys o ≡ Some x) ⊎ ((suc o ≡ suc i) × (z ≡ x))
  at (inl k) = inl k
  at (inr k) = inr (ap suc k.0, k.1)

-- a slot of an object to which a value was put: the new value, or the one that it had
stored_cases : (s u : Slot) (v w : Value) (xs : List Stored) → stored_value (with_stored xs s v) u ≡ Some w
    → ((same_slot s u ≡ true) × (v ≡ w)) ⊎ (stored_value xs u ≡ Some w)
stored_cases s u v w xs e = at (same_slot s u) refl (sym (heap_laws.values.stored xs s u v) ∙ e) where
  same : Some v ≡ Some w → v ≡ w
  same e = cc

  at : (b : Bool) → same_slot s u ≡ b → cond b (Some v) (stored_value xs u) ≡ Some w
      → ((same_slot s u ≡ true) × (v ≡ w)) ⊎ (stored_value xs u ≡ Some w)
  at true k e = inl (k, same e)
  at false k e = inr e

-- the heap after a store: that slots fit has to be shown of the value put, at each view whose slot is this one
pub put_heap : (p : Program) (h : Heap) (o : ℕ) (x : Object) (s : Slot) (v : Value) → HeapFits p h
    → slice_get h.objects o ≡ Some x → Later h (with_slot h o x s v)
    → ((V : Path) (f : Name) (u : Slot) (t : Ty) → Related p x.made V → FieldType p V f t → IsSlot p V f u →
    same_slot s u ≡ true → SlotFits p h V t v)
    → HeapFits p (with_slot h o x s v)
put_heap p h o x s v hf at l new = record { slots = slots; classes = classes } where
  put : Object
  put = record x { stored = with_stored x.stored s v }

  slots : (j : ℕ) (y : Object) (V : Path) (f : Name) (u : Slot) (t : Ty) (w : Value)
      → slice_get (slice_set h.objects o (record x { stored = with_stored x.stored s v })) j ≡ Some y
      → Related p y.made V → FieldType p V f t → IsSlot p V f u → stored_value y.stored u ≡ Some w → SlotFits p
      (with_slot h o x s v) V t w
  slots j y V f u t w e r d is g =
      slot_later_fits p h (with_slot h o x s v) V t w l
      (by (set_cases h.objects o j (record x { stored = with_stored x.stored s v }) y e)) where
        by : (slice_get h.objects j ≡ Some y) ⊎ ((j ≡ o) × (record x { stored = with_stored x.stored s v } ≡ y))
            → SlotFits p h V t w
        by (inl k) = hf.slots j y V f u t w k r d is g
        by (inr k) =
            at_slot (stored_cases s u v w x.stored
            (subst (λ (z : Object). stored_value z.stored u ≡ Some w) (sym k.1) g)) where
              made : Related p x.made V
              made = subst (λ (z : Object). Related p z.made V) (sym k.1) r

              at_slot : ((same_slot s u ≡ true) × (v ≡ w)) ⊎ (stored_value x.stored u ≡ Some w) → SlotFits p h V t w
              at_slot (inl z) = subst (SlotFits p h V t) z.1 (new V f u t made d is z.0)
              at_slot (inr z) = hf.slots o x V f u t w at made d is z

  classes : (j : ℕ) (y : Object)
      → slice_get (slice_set h.objects o (record x { stored = with_stored x.stored s v })) j ≡ Some y → IsClass p y.made
  classes j y e = by (set_cases h.objects o j (record x { stored = with_stored x.stored s v }) y e) where
    by : (slice_get h.objects j ≡ Some y) ⊎ ((j ≡ o) × (record x { stored = with_stored x.stored s v } ≡ y))
        → IsClass p y.made
    by (inl k) = hf.classes j y k
    by (inr k) = subst (λ (z : Object). IsClass p z.made) k.1 (hf.classes o x at)
