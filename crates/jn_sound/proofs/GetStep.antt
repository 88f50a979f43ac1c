-- Reading a field, from one typing to another; and which field it is.
use Rattle.std.proofs.Common.{◌≡◌, ℕ, List, [], ◌∷◌, length, Option, Some, None, Bool, refl, sym, ap, ◌∙◌, subst}
use Rattle.std.specs.Prelude.{IsSome, take}
use Rattle.jn_base.specs.declared.tree.Name.{Name}
use Rattle.jn_base.specs.declared.tree.Program.{Program}
use Rattle.jn_base.specs.declared.types.Ty.{Ty}
use Rattle.jn_base.specs.declared.names.Var.{Var}
use Rattle.jn_base.specs.Paths.{Path}
use Rattle.jn_base.specs.Atoms.{atoms_in}
use Rattle.jn_base.specs.Scopes.{Scope}
use Rattle.jn_base.specs.Fits.{TypeFits}
use Rattle.jn_base.specs.ResolveTypes.{mask_names}
use Rattle.jn_sem.specs.declared.outcome.Why.TheVariants as why
use Rattle.jn_sem.specs.Sets.{Views}
use Rattle.jn_sem.specs.Values.{Value, Number, Truth, Null, Reference, Masked}
use Rattle.jn_sem.specs.Acts.{Get, Todo}
use Rattle.jn_sem.specs.State.{Heap, Frame, view_in, IsIn, HasValue}
use Rattle.jn_sem.specs.Does.{Way, Does, Stuck, on_object}
use Rattle.std.specs.Option.{option_and_then}
use Rattle.jn_sem.specs.Values.{FieldsFilled}
use Rattle.jn_sem.specs.Sharing.{IsClass, Counterpart, HangsOnThis, family_of}
use Rattle.jn_sem.specs.Slots.{FieldType, IsSlot, Slot}
use Rattle.jn_sem.specs.Normal.{swapped}
use Rattle.jn_sem.specs.NormalFunction.{subst_type}
use Rattle.jn_sem.specs.State.{Object, slot_value, stored_value}
use Rattle.jn_sem.specs.Does.{on_read, on_viewed, missing, ends as ends_with, goes}
use Rattle.jn_sem.specs.Asks.{OnFirst, OnSome, OnOnly}
use Rattle.jn_rules.specs.Plans.{FoundField}
use Rattle.jn_rules.specs.Questions.{IsFoundField}
use Rattle.jn_laws.specs.Reading.{plain as read_plain}
use Rattle.jn_rules.specs.Questions.{masks_of}
use Rattle.jn_sound.specs.Sound.{HeapFits, OperandsFit, one, cut, all_views}
use Rattle.jn_sound.proofs.Laws.{Laws}
use Rattle.jn_sound.specs.Takes.{Opd, opd}
use Rattle.jn_sem.specs.Does.{Did}
use Rattle.jn_sem.proofs.HeapLaws.{heap_laws}
use Rattle.jn_sound.specs.Takes.{typing}
use Rattle.jn_sound.specs.Sound.{Stands}
use Rattle.jn_sound.specs.Steps.{GoesAt, DidAt}
use Rattle.jn_sound.proofs.Ways.{surely}
use Rattle.jn_sound.proofs.Safe.{Sure, sure_it, sure_by, sure_only, sure_either, sure_some}
use Rattle.jn_sound.proofs.Stands.{now, stays_on, scope_on, vars_on}
use Rattle.jn_sound.proofs.Acts.{no_path, ObjectIs, null_is, object_is, object_value, has_atoms, the_value, field_in, read_real, not_stuck_at_null}
use Rattle.jn_laws.specs.Reading.{SlotFits, ReadAs, itself as read_itself, turned, RefersTo, IsReal}
use Rattle.jn_rules.specs.Headers.{Header}
use Rattle.jn_laws.specs.Surely.{Surely}

-- ---- the operands change, and nothing else

pub stands_on : {p : Program} {h : Heap} {f : Frame} {x : Header} {vs : List Var} {s : Scope} {ops : List Opd}
    {w : Views} → Stands p h f x vs s ops w
    → (k : List Todo) (keeps : Bool) (more : List Opd) (vals : List Value) → OperandsFit p (take (length vs) f.vars) h s
    (all_views (cut (length vs) f) w) more vals
    → Stands p h (record (now (length vs) k f) { vals = vals; keeps = keeps }) x vs s more w
stands_on {p} {h} {f} {x} {vs} {s} {ops} {w} a k keeps more vals g = record {
  is_header = a.is_header;
  params = a.params;
  all_params = a.all_params;
  in_scope = scope_on f a.in_scope k keeps vals;
  operands = vars_on (λ V v. OperandsFit p V h s v more vals) f (length vs) w k keeps vals g;
}

pub goes_at : {p : Program} {h : Heap} {f : Frame} {x : Header} {vs : List Var} {s : Scope} {ops : List Opd}
    {w : Views} → HeapFits p h → Stands p h f x vs s ops w
    → (k : List Todo) (more : List Opd) (vals : List Value) → OperandsFit p (take (length vs) f.vars) h s
    (all_views (cut (length vs) f) w) more vals
    → GoesAt p h f x vs k (typing s more) (record (now (length vs) k f) { vals = vals }) h
goes_at {p} {h} {f} {x} {vs} {s} {ops} {w} e a k more vals g = record {
  later = (heap_laws.heaps p).itself h;
  heap = e;
  stays = stays_on a k f.keeps vals;
  todo = refl;
  stands = record { fresh = w; stands = stands_on a k f.keeps more vals g };
}

-- ---- Get

-- what is read is such, where each value that it may give is
read_sure : {p : Program} {Q : Did → Type 0} (V : Path) (t : Ty) (x : Value) (go : Value → Way)
    → Surely ((w : Value) × ReadAs p V t x w)
    → ((w : Value) → ReadAs p V t x w → Sure Q (go w)) → Sure Q (on_read p V t x go)
read_sure V t (Number z) go there each = each (Number z) (read_plain refl)
read_sure V t (Truth b) go there each = each (Truth b) (read_plain refl)
read_sure V t Null go there each = each Null (read_plain refl)
read_sure {p} {Q} V t (Reference o U) go there each =
    sure_either (λ n. each (Reference o U) (read_itself n)) (λ a. sure_by there (λ w. at w.0 w.1 a)) where
      no : Some U ≡ None → ⊥
      no e = cc

      one_view : (Y : Name) (W X : Path) → Counterpart p Y U W → Counterpart p Y U X → X ≡ W
      one_view Y W X a b = b.is ∙ sym a.is

      at : (w : Value) → ReadAs p V t (Reference o U) w → HangsOnThis t
          → Sure Q (OnSome (family_of V) missing (λ Y. on_viewed p Y (Reference o U) go))
      at _ (read_itself n) a = absurd (n a)
      at _ (read_plain e) a = absurd (no e)
      at _ (turned {W = W} Y a b c) k =
          sure_some (family_of V) missing (λ (Z : Name). on_viewed p Z (Reference o U) go) Y b
          (sure_only (surely (W, c)) (λ A B i j. one_view Y A B i j) (λ X i. each (Reference o X) (turned Y k b i)))

-- which field it is: that of the typing, at the view of the receiver
pub field_known : {p : Program} {h : Heap} {f : Frame} {x : Header} {vs : List Var} {s : Scope} {ops : List Opd}
    {w : Views} → Laws p → (name : Name) (t : Ty) (q : Option ℕ) (c : FoundField)
    → IsFoundField p s t name c → Stands p h f x vs s (opd t q ∷ ops) w → (o : ℕ) (V : Path) (us : List Value) →
    f.vals ≡ Reference o V ∷ us → FieldType p V name c.ty
field_known {p} {h} {f} {x} {vs} {s} {ops} {w} n name t q c i a o V us e =
    at (subst (OperandsFit p (take (length vs) f.vars) h s v (opd t q ∷ ops)) e a.operands) where
      v : Views
      v = all_views (cut (length vs) f) w

      of_value : RefersTo p h o V → ObjectIs p h v t (Reference o V) → FieldType p V name c.ty
      of_value r (object_is it g) =
          n.field_at V i.bound name c.ty r.related.other
          (n.field_class s v t name c V a.in_scope.binds a.in_scope.respects i it) i.type

      at : OperandsFit p (take (length vs) f.vars) h s v (opd t q ∷ ops) (Reference o V ∷ us) → FieldType p V name c.ty
      at (one j others) =
          of_value j.real (object_value p h v t (Reference o V) (has_atoms t (atoms_in t) i.at refl) j.is_in)

-- reading a field
pub get_at : {p : Program} {h : Heap} {f : Frame} {x : Header} {vs : List Var} {s : Scope} {ops : List Opd}
    {w : Views} → Laws p → HeapFits p h → (m : ℕ) (k : List Todo)
    (name : Name) (t : Ty) (q : ℕ) (c : FoundField) → IsFoundField p s t name c →
    (Masked (mask_names p) (masks_of t) name → ⊥)
    → TypeFits s (subst_type s (swapped (0 ∷ []) (q ∷ [])) c.ty)
    → Stands p h f x vs s (opd t (Some q) ∷ ops) w
    → Sure (DidAt p h f x vs k (typing s (opd (subst_type s (swapped (0 ∷ []) (q ∷ [])) c.ty) None ∷ ops)))
    (Does p m (Get name) (now (length vs) k f) h)
get_at {p} {h} {f} {x} {vs} {s} {ops} {w} n hf m k name t q c i free tf a = at f.vals a.operands where
  v : Views
  v = all_views (cut (length vs) f) w

  u : Ty
  u = subst_type s (swapped (0 ∷ []) (q ∷ [])) c.ty

  Q : Did → Type 0
  Q = DidAt p h f x vs k (typing s (opd (subst_type s (swapped (0 ∷ []) (q ∷ [])) c.ty) None ∷ ops))

  gives : Value → List Value → Way
  gives y vals = goes (now (length vs) k f) (y ∷ vals) h

  at_slot : (o : ℕ) (V : Path) (vals : List Value) → v q ≡ Some V → RefersTo p h o V
      → FieldsFilled p (mask_names p) (HasValue p h o V) (masks_of t) V
      → OperandsFit p (take (length vs) f.vars) h s v ops vals → (d : Ty) → FieldType p V name d → d ≡ c.ty
      → (sl : Slot) → IsSlot p V name sl
      → Sure Q (OnSome (slot_value h o sl) (ends_with (Stuck why.Masked)) (λ y. on_read p V d y (λ z. gives z vals)))
  at_slot o V vals e r g others d fd de sl is =
      sure_some (slot_value h o sl) (ends_with (Stuck why.Masked))
      (λ (y : Value). on_read p V d y (λ z. gives z vals)) val.0 val.1
      (read_sure V d val.0 (λ z. gives z vals) fit.read (λ z ra. sure_by (fit.fits z ra) (λ is_in. sure_it _ (surely
      (goes_at hf a k (opd u None ∷ ops) (z ∷ vals) (one (record {
        fits = tf;
        bound = λ b y. absurd (no_path b y);
        is_in =
            subst (λ (dd : Ty). IsIn p v h (subst_type s (swapped (0 ∷ []) (q ∷ [])) dd) z) de
            (field_in n a.in_scope.binds a.in_scope.respects V name d q z e fd is_in);
        real = read_real p h V d val.0 z ra fit.real;
        path = λ b y. absurd (no_path b y);
        held = λ b c y. absurd (no_path b.var.path y);
      }) others)))))) where
        filled : HasValue p h o V name
        filled = g name (n.field_has V name d fd) free

        val : (y : Value) × (slot_value h o sl ≡ Some y)
        val =
            the_value (slot_value h o sl) (subst (λ (z : Slot). IsSome (slot_value h o z))
            (n.slot_one V name filled.slot sl filled.is_slot is) filled.has)

        stored : stored_value r.object.stored sl ≡ Some val.0
        stored =
            ap (λ (y : Option Object). option_and_then (λ (z : Object). stored_value z.stored sl) y) (sym r.at) ∙ val.1

        fit : SlotFits p h V d val.0
        fit = hf.slots o r.object V name sl d val.0 r.at r.related fd is stored

  at_value : (y : Value) (vals : List Value) → v q ≡ view_in y → IsReal p h y → ObjectIs p h v t y
      → OperandsFit p (take (length vs) f.vars) h s v ops vals
      → Sure Q (on_object y (λ o V. OnOnly (FieldType p V name) missing
      (λ d. OnOnly (IsSlot p V name) missing
      (λ sl. OnSome (slot_value h o sl) (ends_with (Stuck why.Masked))
      (λ z. on_read p V d z (λ z. gives z vals))))))
  at_value _ vals e r null_is others = sure_it _ (surely not_stuck_at_null)
  at_value _ vals e r (object_is {o = o} {V = V} it g) others =
      let class : IsClass p V = r.related.other in
      let type : FieldType p V name c.ty = n.field_at V i.bound name c.ty class
      (n.field_class s v t name c V a.in_scope.binds a.in_scope.respects i it) i.type in
      sure_only (surely (c.ty, type)) (λ A B j l. n.field_one V name B A l j)
      (λ d fd. sure_only (n.slot_at V name class (n.field_has V name d fd)) (λ A B j l. n.slot_one V name B A l j)
      (λ sl is. at_slot o V vals e r g others d fd (n.field_one V name d c.ty fd type) sl is))

  at : (vals : List Value) → OperandsFit p (take (length vs) f.vars) h s v (opd t (Some q) ∷ ops) vals
      → Sure Q (OnFirst vals missing (λ y ys. on_object y
      (λ o V. OnOnly (FieldType p V name) missing
      (λ d. OnOnly (IsSlot p V name) missing
      (λ sl. OnSome (slot_value h o sl) (ends_with (Stuck why.Masked)) (λ z. on_read p V d z (λ z. gives z ys)))))))
  at _ (one {x = y} {vs = vals} j others) =
      at_value y vals (j.path q refl) j.real
      (object_value p h v t y (has_atoms t (atoms_in t) i.at refl) j.is_in) others
