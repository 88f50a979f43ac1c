-- A store to a field, from one typing to another.
use Rattle.std.proofs.Common.{◌≡◌, ℕ, List, [], ◌∷◌, length, Option, Some, true, refl, sym, subst, ap, ◌∙◌, zero, suc}
use Rattle.std.specs.Option.{option_and_then}
use Rattle.std.specs.Prelude.{IsSome, Bool, cond, slice_get, slice_set, take}
use Rattle.jn_base.specs.declared.tree.Name.{Name}
use Rattle.jn_base.specs.declared.tree.Program.{Program}
use Rattle.jn_base.specs.declared.types.Anchor.{Anchor}
use Rattle.jn_base.specs.declared.types.Anchor.TheVariants.{Root, Up}
use Rattle.jn_base.specs.declared.types.Ty.{Ty}
use Rattle.jn_base.specs.declared.names.Var.{Var}
use Rattle.jn_base.specs.Paths.{Path}
use Rattle.jn_base.specs.Atoms.{Atom, atoms_in, Among}
use Rattle.jn_base.specs.Scopes.{Scope}
use Rattle.jn_base.specs.Fits.{BindsFit}
use Rattle.jn_base.specs.ResolveTypes.{mask_names}
use Rattle.jn_sem.specs.Sets.{Views, AnchorSeen, Respects}
use Rattle.jn_sem.specs.Values.{Value, Reference}
use Rattle.jn_sem.specs.Sharing.{IsClass, Related}
use Rattle.jn_sem.specs.Slots.{FieldType, IsSlot, Slot, this_viewed}
use Rattle.jn_sem.specs.Normal.{swapped, after}
use Rattle.jn_sem.specs.NormalFunction.{subst_type}
use Rattle.jn_sem.specs.Acts.{Put, Todo}
use Rattle.jn_sem.specs.State.{Heap, Object, Stored, Variable, Frame, HasValue, IsIn, view_in, same_slot, slot_value, stored_value, with_stored, with_slot}
use Rattle.jn_sem.specs.Asks.{OnFirst, OnOnly, OnSome, OnTest}
use Rattle.jn_sem.specs.Does.{Did, Does, on_object, goes, missing, foreign}
use Rattle.jn_sem.proofs.HeapLaws.{heap_laws, later_slot}
use Rattle.jn_steps.specs.Steps.{Goes, Enters, Leaves, Falls, Faults}
use Rattle.jn_sem.proofs.StoredValues.{slots_equal, slot_same}
use Rattle.jn_sem.proofs.TypeSets.{values_subst}
use Rattle.jn_sem.proofs.NormalTypes.{type_subst_is}
use Rattle.jn_laws.specs.LawsOfViews.{Agree}
use Rattle.jn_laws.specs.Reading.{IsReal, SlotFits}
use Rattle.jn_laws.specs.Surely.{Surely}
use Rattle.jn_laws.proofs.ByViews.{value_same}
use Rattle.jn_rules.specs.Plans.{FoundField}
use Rattle.jn_rules.specs.Questions.{IsFoundField}
use Rattle.jn_rules.specs.Headers.{Header}
use Rattle.jn_sound.specs.Takes.{Opd, opd, typing}
use Rattle.jn_sound.specs.Sound.{HeapFits, OperandFits, OperandsFit, one, cut, all_views, Stands, NotStuck}
use Rattle.jn_sound.specs.Steps.{GoesAt, DidAt}
use Rattle.jn_sound.proofs.Laws.{Laws}
use Rattle.jn_sound.proofs.Ways.{surely}
use Rattle.jn_sound.proofs.Safe.{Sure, sure_it, sure_to, sure_only, sure_some, sure_test}
use Rattle.jn_sound.proofs.Stands.{now, stays_on}
use Rattle.jn_sound.proofs.Views.{agree_in}
use Rattle.jn_sound.proofs.Acts.{ObjectIs, null_is, object_is, object_value, has_atoms, not_stuck_at_null}
use Rattle.jn_sound.proofs.GetStep.{stands_on}
use Rattle.jn_sound.proofs.CallStep.{stands_later}
use Rattle.jn_sound.proofs.Known.{among_take}
use Rattle.jn_sound.proofs.Extras.{put_heap}

-- a value of the field's type at a path is in the type with `this` at the path's view
field_out : {p : Program} {h : Heap} {s : Scope} {v : Views} → Laws p → BindsFit s → Respects p v s
    → (V : Path) (f : Name) (t : Ty) (q : ℕ) (w : Value) → v q ≡ Some V
    → FieldType p V f t → IsIn p v h (subst_type s (swapped (0 ∷ []) (q ∷ [])) t) w → IsIn p (this_viewed V) h t w
field_out {p} {h} {s} {v} n b r V f t q w e d i =
    value_same p (after to v) (this_viewed V) h t w
    (agree_in (after to v) (this_viewed V) t (λ x a. agree x.anchor (path x a)))
    ((values_subst r (mask_names p) (HasValue p h) to t (subst_type s to t) w (λ x a. seen x.anchor (path x a))
    ((type_subst_is s to t (subst_type s to t)).1 refl)).1 i) where
      to : ℕ → ℕ
      to = swapped (0 ∷ []) (q ∷ [])

      path : (x : Atom) → Among (atoms_in t) x → (r k : ℕ) → x.anchor ≡ Up r k → r ≡ 0
      path x a r k g = n.field_paths V f t x r k d a g

      agree : (a : Anchor) → ((r k : ℕ) → a ≡ Up r k → r ≡ 0) → Agree (after to v) (this_viewed V) a
      agree Root g = tt
      agree (Up r k) g = subst (λ (z : ℕ). after to v z ≡ this_viewed V z) (sym (g r k refl)) e

      seen : (a : Anchor) → ((r k : ℕ) → a ≡ Up r k → r ≡ 0) → AnchorSeen (after to v) a
      seen Root g = tt
      seen (Up r k) g =
          subst (λ (z : ℕ). IsSome (after to v z)) (sym (g r k refl))
          (subst (λ (o : Option Path). IsSome o) (sym e) refl)

-- where a store leads, and the slot that has the value
pub record PutAt (p : Program) (h : Heap) (f : Frame) (x : Header) (vs : List Var) (k : List Todo) (s : Scope)
    (ops : List Opd) (q : ℕ) (name : Name) (g : Frame) (i : Heap) : Type 0 where
  pub object : ℕ
  pub view : Path
  pub slot : Slot
  pub is_slot : IsSlot p view name slot
  pub has : IsSome (slot_value i object slot)
  -- a variable that is the receiver's path has the object
  pub held : (z : Variable) → Among (take (length vs) g.vars) z → z.var.path ≡ q → z.value ≡ Reference object view
  pub goes : GoesAt p h f x vs k (typing s ops) g i

abbrev pub PutDid : Program → Heap → Frame → Header → List Var → List Todo → Scope → List Opd → ℕ → Name → Did → Type 0
PutDid p h f x vs k s ops q name (Goes g i bytes) = PutAt p h f x vs k s ops q name g i
PutDid p h f x vs k s ops q name (Enters e args g i) = ⊥
PutDid p h f x vs k s ops q name (Leaves v i) = ⊥
PutDid p h f x vs k s ops q name Falls = ⊥
PutDid p h f x vs k s ops q name (Faults o) = NotStuck o

stored_is : (xs : List Stored) (sl : Slot) (y : Value) → IsSome (stored_value (with_stored xs sl y) sl)
stored_is xs sl y =
    subst (λ (o : Option Value). IsSome o)
    (sym (heap_laws.values.stored xs sl sl y
    ∙ ap (λ (b : Bool). cond b (Some y) (stored_value xs sl)) (slot_same sl))) refl

set_there : (xs : List Object) (o : ℕ) (z b : Object) → slice_get xs o ≡ Some b
    → slice_get (slice_set xs o z) o ≡ Some z
set_there [] o z b e = absurd (no o e) where
  no : (n : ℕ) → slice_get [] n ≡ Some b → ⊥
  no zero e = cc
  no (suc n) e = cc
set_there (y ∷ ys) zero z b e = refl
set_there (y ∷ ys) (suc o) z b e = set_there ys o z b e

pub put_did : {p : Program} {h : Heap} {f : Frame} {x : Header} {vs : List Var} {s : Scope} {ops : List Opd}
    {w : Views} → Laws p → HeapFits p h → (m : ℕ) (k : List Todo)
    (name : Name) (t : Ty) (q : ℕ) (r : Option ℕ) (c : FoundField) → IsFoundField p s t name c
    → Stands p h f x vs s (opd (subst_type s (swapped (0 ∷ []) (q ∷ [])) c.ty) r ∷ (opd t (Some q) ∷ ops)) w
    → Sure (PutDid p h f x vs k s ops q name) (Does p m (Put name) (now (length vs) k f) h)
put_did {p} {h} {f} {x} {vs} {s} {ops} {w} n hf m k name t q r c i a = at f.vals a.operands where
  v : Views
  v = all_views (cut (length vs) f) w

  u : Ty
  u = subst_type s (swapped (0 ∷ []) (q ∷ [])) c.ty

  Q : Did → Type 0
  Q = PutDid p h f x vs k s ops q name

  -- the value is in the field's type, so it fits each view with the slot
  stored : (o : ℕ) (V : Path) (y : Value) (us : List Value) (z : Object) (sl : Slot)
      → slice_get h.objects o ≡ Some z → FieldType p V name c.ty → IsSlot p V name sl → IsReal p h y
      → IsIn p (this_viewed V) h c.ty y → OperandsFit p (take (length vs) f.vars) h s v ops us
      → GoesAt p h f x vs k (typing s ops) (record (now (length vs) k f) { vals = us }) (with_slot h o z sl y)
  stored o V y us z sl e fd is real is_in others = record {
    later = later_slot h o z sl y e;
    heap = put_heap p h o z sl y hf e (later_slot h o z sl y e) each;
    stays = stays_on a k f.keeps us;
    todo = refl;
    stands =
        record {
          fresh = w;
          stands = stands_later p h (with_slot h o z sl y)
              (record (now (length vs) k f) { vals = us }) x vs s ops w (later_slot h o z sl y e)
              (stands_on a k f.keeps ops us others);
        };
  } where
    each : (W : Path) (g : Name) (l : Slot) (d : Ty) → Related p z.made W → FieldType p W g d → IsSlot p W g l
        → same_slot sl l ≡ true → SlotFits p h W d y
    each W g l d rel fw isw same =
        let slot : IsSlot p W g sl = subst (λ (m : Slot). IsSlot p W g m) (sym (slots_equal sl l same)) isw in
        let one : name ≡ g = n.stores.field V W name g sl is slot in
        let own : IsSlot p W name sl = subst (λ (m : Name). IsSlot p W m sl) (sym one) slot in
        let type : c.ty ≡ d = n.stores.type V W name sl c.ty d is own fd
        (subst (λ (m : Name). FieldType p W m d) (sym one) fw) in
        subst (λ (b : Ty). SlotFits p h W b y) type (n.stores.value h V W name sl c.ty y is own fd real is_in)

  put_at_slot : (o : ℕ) (V : Path) (y : Value) (us : List Value) (z : Object) (sl : Slot)
      → slice_get h.objects o ≡ Some z → IsSlot p V name sl
      → ((b : Variable) → Among (take (length vs) f.vars) b → Some q ≡ Some b.var.path → Reference o V ≡ b.value)
      → GoesAt p h f x vs k (typing s ops) (record (now (length vs) k f) { vals = us }) (with_slot h o z sl y)
      → PutAt p h f x vs k s ops q name (record (now (length vs) k f) { vals = us }) (with_slot h o z sl y)
  put_at_slot o V y us z sl e is held goes = record {
    object = o;
    view = V;
    slot = sl;
    is_slot = is;
    has =
        subst (λ (b : Option Object). IsSome (option_and_then (λ (j : Object). stored_value j.stored sl) b))
        (sym (set_there h.objects o (record z { stored = with_stored z.stored sl y }) z e))
        (stored_is z.stored sl y);
    held = λ b j d. sym (held b (among_take (length vs) (take (length vs) f.vars) b j) (ap (λ (l : ℕ). Some l)
        (sym d)));
    goes = goes;
  }

  at_value : (y z : Value) (us : List Value) → v q ≡ view_in z → IsReal p h z → ObjectIs p h v t z
      → ((b : Variable) → Among (take (length vs) f.vars) b → Some q ≡ Some b.var.path → z ≡ b.value)
      → IsReal p h y → IsIn p v h u y → OperandsFit p (take (length vs) f.vars) h s v ops us
      → Sure Q (on_object z (λ o V. OnOnly (FieldType p V name) missing
      (λ d. OnOnly (IsSlot p V name) missing (λ sl. OnSome (slice_get h.objects o) missing
      (λ b. OnTest (IsIn p (this_viewed V) h d y) foreign (goes (now (length vs) k f) us (with_slot h o b sl y)))))))
  at_value y _ us e rl null_is held real is_in others = sure_it _ (surely not_stuck_at_null)
  at_value y _ us e rl (object_is {o = o} {V = V} it g) held real is_in others =
      let class : IsClass p V = rl.related.other in
      let type : FieldType p V name c.ty = n.field_at V i.bound name c.ty class
      (n.field_class s v t name c V a.in_scope.binds a.in_scope.respects i it) i.type in
      let typed : IsIn p (this_viewed V) h c.ty y =
      field_out n a.in_scope.binds a.in_scope.respects V name c.ty q y e type is_in in
      sure_only (surely (c.ty, type)) (λ A B j l. n.field_one V name B A l j) (λ d fd.
      let same : c.ty ≡ d = n.field_one V name c.ty d type fd in
      sure_only (n.slot_at V name class (n.field_has V name d fd)) (λ A B j l. n.slot_one V name B A l j) (λ sl is.
      sure_some (slice_get h.objects o) missing
      (λ (b : Object). OnTest (IsIn p (this_viewed V) h d y) foreign
      (goes (now (length vs) k f) us (with_slot h o b sl y))) rl.object rl.at
      (sure_test (surely (subst (λ (b : Ty). IsIn p (this_viewed V) h b y) same typed))
      (λ ok. sure_it _ (surely (put_at_slot o V y us rl.object sl rl.at is held
      (stored o V y us rl.object sl rl.at type is real typed others)))))))

  second : (y : Value) (rest : List Value) → OperandFits p (take (length vs) f.vars) h s v (opd u r) y
      → OperandsFit p (take (length vs) f.vars) h s v (opd t (Some q) ∷ ops) rest
      → Sure Q (OnFirst rest missing (λ z us. on_object z
      (λ o V. OnOnly (FieldType p V name) missing
      (λ d. OnOnly (IsSlot p V name) missing (λ sl. OnSome (slice_get h.objects o) missing
      (λ b. OnTest (IsIn p (this_viewed V) h d y) foreign (goes (now (length vs) k f) us (with_slot h o b sl y))))))))
  second y _ j (one {x = z} {vs = us} l others) =
      at_value y z us (l.path q refl) l.real
      (object_value p h v t z (has_atoms t (atoms_in t) i.at refl) l.is_in) l.held j.real j.is_in others

  at : (vals : List Value) → OperandsFit p (take (length vs) f.vars) h s v (opd u r ∷ (opd t (Some q) ∷ ops)) vals
      → Sure Q (OnFirst vals missing (λ y rest. OnFirst rest missing
      (λ z us. on_object z (λ o V. OnOnly (FieldType p V name) missing
      (λ d. OnOnly (IsSlot p V name) missing (λ sl. OnSome (slice_get h.objects o) missing
      (λ b. OnTest (IsIn p (this_viewed V) h d y) foreign (goes (now (length vs) k f) us (with_slot h o b sl y)))))))))
  at _ (one {x = y} {vs = rest} j others) = second y rest j others

pub put_at : {p : Program} {h : Heap} {f : Frame} {x : Header} {vs : List Var} {s : Scope} {ops : List Opd}
    {w : Views} → Laws p → HeapFits p h → (m : ℕ) (k : List Todo)
    (name : Name) (t : Ty) (q : ℕ) (r : Option ℕ) (c : FoundField) → IsFoundField p s t name c
    → Stands p h f x vs s (opd (subst_type s (swapped (0 ∷ []) (q ∷ [])) c.ty) r ∷ (opd t (Some q) ∷ ops)) w
    → Sure (DidAt p h f x vs k (typing s ops)) (Does p m (Put name) (now (length vs) k f) h)
put_at {p} {h} {f} {x} {vs} {s} {ops} n hf m k name t q r c i a =
    sure_to at (put_did n hf m k name t q r c i a) where
      at : (d : Did) → PutDid p h f x vs k s ops q name d → Surely (DidAt p h f x vs k (typing s ops) d)
      at (Goes g i bytes) e = surely e.goes
      at (Enters en args g i) e = absurd e
      at (Leaves v i) e = absurd e
      at Falls e = absurd e
      at (Faults o) e = surely e
