-- Acts that look at objects and at the program.
use Rattle.std.proofs.Common.{◌≡◌, ◌↔◌, ◌<◌, ℕ, List, [], ◌∷◌, length, Option, Some, None, Bool, true, false, IsTrue, refl, sym, ap, ◌∙◌, subst}
use Rattle.std.specs.Prelude.{slice_get, slice_set, cond, nat_eq}
use Rattle.std.specs.Option.{option_map}
use Rattle.jn_reach.proofs.Searches.{not_when}
use Rattle.jn_steps.specs.Steps.{Goes, Faults}
use Rattle.jn_base.specs.declared.tree.Name.{Name}
use Rattle.jn_base.specs.declared.names.Var.{Var}
use Rattle.jn_base.specs.declared.names.Vars.{Vars}
use Rattle.jn_base.specs.declared.tree.Program.{Program}
use Rattle.jn_base.specs.declared.path.Path.{Path as ShownPath}
use Rattle.jn_base.specs.declared.types.Ty.{Ty}
use Rattle.jn_base.specs.Paths.{Path}
use Rattle.jn_sem.specs.declared.outcome.Why.TheVariants as why
use Rattle.jn_sem.specs.Acts as acts
use Rattle.jn_sem.specs.Values as sem
use Rattle.jn_sem.specs.Sets.{Views}
use Rattle.jn_sem.specs.Slots.{FieldType, IsSlot, this_viewed}
use Rattle.jn_sem.specs.Slots as slots
use Rattle.jn_sem.specs.State as state
use Rattle.jn_sem.specs.State.{Variable, IsIn, frame_views, view_of_var, with_values, variable, assigned, with_slot, slot_value}
use Rattle.jn_sem.specs.Asks.{OnOnly, OnSome, OnTest, holds, fails}
use Rattle.jn_sem.specs.Does as does
use Rattle.jn_sem.specs.Does.{Way, AtNull, Stuck, missing, masked, foreign, goes, on_one, on_object, on_read, on_typed, bound_to}
use Rattle.jn_sem.specs.LawsOfFinding.{IsOne}
use Rattle.jn_table.specs.declared.class.ClassId.{ClassId}
use Rattle.jn_meaning.specs.declared.heap.Heap.{Heap}
use Rattle.jn_meaning.specs.declared.heap.Slot.{Slot}
use Rattle.jn_meaning.specs.declared.frame.Frame.{Frame}
use Rattle.jn_meaning.specs.declared.locals.Locals.{Locals}
use Rattle.jn_meaning.specs.declared.did.Did.{Did}
use Rattle.jn_meaning.specs.declared.did.Did.TheVariants as did
use Rattle.jn_meaning.specs.declared.did.Ending.TheVariants as ending
use Rattle.jn_meaning.specs.declared.value.Value.{Value}
use Rattle.jn_meaning.specs.declared.value.Value.TheVariants as value
use Rattle.jn_meaning.specs.Values.{path_at, value_of, values_of}
use Rattle.jn_meaning.specs.Heaps.{heap_of, slot_of, StoredAt}
use Rattle.jn_meaning.specs.Frames.{frame_of, did_of, variables_of}
use Rattle.jn_meaning.specs.Newest.{IsNewest, view_in}
use Rattle.jn_meaning.specs.declared.operators.Made.{Made}
use Rattle.jn_meaning.specs.Asked.{GotTold}
use Rattle.jn_meaning.specs.Doing.{MadeDid, GetsAt, FitsFrame, PutsAt, PutsIn, put_way}
use Rattle.jn_meaning.proofs.ClassNumbers.{at_within}
use Rattle.jn_meaning.proofs.Finds.{found_only, none_only}
use Rattle.jn_meaning.proofs.Steps.{at_first, at_two}
use Rattle.jn_meaning.proofs.Stored.{objects_at, no_object}
use Rattle.jn_meaning.proofs.Variables.{values_at, values_set, newest_none, newest_some, newest_assigned, view_seen}

-- ---- receivers

module _ (known : List ShownPath) where
  pub at_object : (v : Value) (o : ℕ) (id : ClassId) (go : ℕ → Path → Way) (d : does.Did) → v ≡ value.Reference o id → go o (path_at known id) d → on_object (value_of known v) go d
  at_object v o id go d e g = subst (λ (w : Value). on_object (value_of known w) go d) (sym e) g

  pub at_null : (v : Value) (go : ℕ → Path → Way) → v ≡ value.Null → on_object (value_of known v) go (Faults AtNull)
  at_null v go e = subst (λ (w : Value). on_object (value_of known w) go (Faults AtNull)) (sym e) refl

  pub at_number_object : (v : Value) (go : ℕ → Path → Way) {z : _} → v ≡ value.Number z → on_object (value_of known v) go (Faults (Stuck why.Kind))
  at_number_object v go e = subst (λ (w : Value). on_object (value_of known w) go (Faults (Stuck why.Kind))) (sym e) refl

  pub at_truth_object : (v : Value) (go : ℕ → Path → Way) {b : _} → v ≡ value.Truth b → on_object (value_of known v) go (Faults (Stuck why.Kind))
  at_truth_object v go e = subst (λ (w : Value). on_object (value_of known w) go (Faults (Stuck why.Kind))) (sym e) refl

-- ---- types

same_views : (known : List ShownPath) (f : Frame) (this : Option ClassId) → this ≡ view_in f.this
    → (λ (q : ℕ). cond (nat_eq q 0) (option_map (path_at known) this) (view_of_var (variables_of known f.locals) q)) ≡ frame_views (frame_of known f)
same_views known f this e i q = cond (nat_eq q 0) ((ap (option_map (path_at known)) e ∙ sym (view_seen known f.this)) i) (view_of_var (variables_of known f.locals) q)

pub fits_seen : (p : Program) (known : List ShownPath) (h : Heap) (f : Frame) (this : Option ClassId) (t : Ty) (v : Value) (told : Bool) → this ≡ view_in f.this
    → IsTrue told ↔ IsIn p (λ (q : ℕ). cond (nat_eq q 0) (option_map (path_at known) this) (view_of_var (variables_of known f.locals) q)) (heap_of known h) t (value_of known v)
    → IsTrue told ↔ FitsFrame p known h f t v
fits_seen p known h f this t v told e i =
    subst (λ (u : Views). IsTrue told ↔ IsIn p u (heap_of known h) t (value_of known v)) (same_views known f this e) i

no_vars : (known : List ShownPath) (vars : List Var) (vals : List Value) (V : Path) → vars ≡ []
    → (λ (q : ℕ). cond (nat_eq q 0) (Some V) (view_of_var (with_values vars (values_of known vals)) q)) ≡ this_viewed V
no_vars known vars vals V e i q = cond (nat_eq q 0) (Some V) (view_of_var (with_values (e i) (values_of known vals)) q)

pub fits_this : (p : Program) (known : List ShownPath) (h : Heap) (vars : List Var) (vals : List Value) (V : Path) (t : Ty) (v : Value) (told : Bool) → vars ≡ []
    → IsTrue told ↔ IsIn p (λ (q : ℕ). cond (nat_eq q 0) (Some V) (view_of_var (with_values vars (values_of known vals)) q)) (heap_of known h) t (value_of known v)
    → IsTrue told ↔ IsIn p (this_viewed V) (heap_of known h) t (value_of known v)
fits_this p known h vars vals V t v told e i =
    subst (λ (u : Views). IsTrue told ↔ IsIn p u (heap_of known h) t (value_of known v)) (no_vars known vars vals V e) i

-- ---- fields

module _ (p : Program) (known : List ShownPath) (h : Heap) (field : Name) where
  abbrev G : state.Heap
  G = heap_of known h

  abbrev get_object : state.Frame → List sem.Value → ℕ → Path → Way
  get_object F vs o V =
      OnOnly (FieldType p V field) missing (λ t. OnOnly (IsSlot p V field) missing (λ s. OnSome (slot_value G o s) masked (λ v. on_read p V t v (λ w. goes F (w ∷ vs) G))))

  pub gets_at : (o : ℕ) (id : ClassId) (f g : Frame) (m : Made) (d : Did) → GotTold p known h o id field m → MadeDid f m d g → GetsAt p known h o id field f d g
  gets_at o id f g m d k e =
      subst (λ (x : does.Did). get_object (frame_of known f) (values_of known f.vals) o (path_at known id) x) (sym (e known G)) (k (frame_of known f) (values_of known f.vals))

  pub gets : (f g : Frame) (v : Value) (rest : List Value) (o : ℕ) (id : ClassId) (d : Did) → f.vals ≡ v ∷ rest → v ≡ value.Reference o id
      → GetsAt p known h o id field (record f { vals = rest }) d g → (m : ℕ) → does.Does p m (acts.Get field) (frame_of known f) G (did_of known d (frame_of known g) G)
  gets f g v rest o id d first is k m =
      let F = frame_of known f in
      let e = did_of known d (frame_of known g) G in
      at_first known f v rest (λ r vs. on_object r (get_object F vs)) e first (at_object known v o id (get_object F (values_of known rest)) e is k)

-- ---- assignments

module _ (p : Program) (known : List ShownPath) (h : Heap) (f : Frame) (v : Value) (rest : List Value) (x : Name) (first : f.vals ≡ v ∷ rest) where
  abbrev F : state.Frame
  F = frame_of known f

  abbrev H : state.Heap
  H = heap_of known h

  abbrev assign_to : sem.Value → List sem.Value → Variable → Way
  assign_to u us y = on_typed p F H y.var.ty u (λ d. d ≡ Goes (record F { vals = us; vars = assigned F.vars x u }) H [])

  abbrev Assigns : does.Did → Type 0
  Assigns d = (m : ℕ) → does.Does p m (acts.Assign x) F H d

  at_variable : (d : does.Did) → OnSome (variable F.vars x) missing (assign_to (value_of known v) (values_of known rest)) d → Assigns d
  at_variable d g m = at_first known f v rest (λ u us. OnSome (variable F.vars x) missing (assign_to u us)) d first g

  pub assigns_none : IsNewest f.locals.vars.list x None → Assigns (Faults (Stuck why.Missing))
  assigns_none n =
      at_variable _ (subst (λ (o : Option Variable). OnSome o missing (assign_to (value_of known v) (values_of known rest)) (Faults (Stuck why.Missing)))
      (sym (newest_none f.locals.vars.list (values_of known f.locals.values.items) x n)) refl)

  module _ (i : ℕ) (n : IsNewest f.locals.vars.list x (Some i)) (within : i < length f.locals.values.items) (told : Bool)
      (fit : (y : Var) → slice_get f.locals.vars.list i ≡ Some y → IsTrue told ↔ FitsFrame p known h f y.ty v) where
    assign_there : (d : does.Did) → ((y : Var) → slice_get f.locals.vars.list i ≡ Some y → on_typed p F H y.ty (value_of known v) (λ d. d ≡ Goes (record F { vals = values_of known rest; vars = assigned F.vars x (value_of known v) }) H []) d)
        → Assigns d
    assign_there d go =
        let u = at_within f.locals.values.items i within in
        let r = newest_some f.locals.vars.list (values_of known f.locals.values.items) x i (value_of known u.0) n.0 n.1 (values_at known f.locals.values.items i u.0 u.1) in
        at_variable d (subst (λ (o : Option Variable). OnSome o missing (assign_to (value_of known v) (values_of known rest)) d) (sym r.2) (go r.0 r.1))

    pub assigns_foreign : told ≡ false → Assigns (Faults (Stuck why.Foreign))
    assigns_foreign e = assign_there _ (λ y a. fails (not_when e (fit y a)) refl)

    pub assigns : (l : Locals) → told ≡ true → l.vars ≡ f.locals.vars → l.values.items ≡ slice_set f.locals.values.items i v
        → Assigns (did_of known did.Went (frame_of known (record f { vals = rest; locals = l })) H)
    assigns l e vars values = assign_there _ (λ y a. holds ((fit y a).0 e) now)
      where
        u : (w : Value) × (slice_get f.locals.values.items i ≡ Some w)
        u = at_within f.locals.values.items i within

        same : variables_of known l ≡ assigned F.vars x (value_of known v)
        same =
            ap (λ (z : Vars). with_values z.list (values_of known l.values.items)) vars
            ∙ ap (λ (vs : List Value). with_values f.locals.vars.list (values_of known vs)) values
            ∙ ap (with_values f.locals.vars.list) (values_set known f.locals.values.items i v)
            ∙ sym (newest_assigned f.locals.vars.list (values_of known f.locals.values.items) x i (value_of known u.0) (value_of known v) n.0 n.1
            (values_at known f.locals.values.items i u.0 u.1))

        now : did_of known did.Went (frame_of known (record f { vals = rest; locals = l })) H ≡ Goes (record F { vals = values_of known rest; vars = assigned F.vars x (value_of known v) }) H []
        now = ap (λ (zs : List Variable). Goes (record F { vals = values_of known rest; vars = zs }) H []) same

-- ---- field assignments

module _ (p : Program) (known : List ShownPath) (h : Heap) (o : ℕ) (id : ClassId) (v : Value) where
  abbrev K : state.Heap
  K = heap_of known h

  abbrev put_there : state.Frame → List sem.Value → Ty → slots.Slot → state.Object → Way
  put_there F vs t s x = OnTest (IsIn p (this_viewed (path_at known id)) K t (value_of known v)) foreign (goes F vs (with_slot K o x s (value_of known v)))

  module _ (s : Slot) (t : Ty) where
    pub puts_nowhere : slice_get h.objects.items o ≡ None → PutsIn p known h o id s t v (did.Ended (ending.Stuck why.Missing)) h
    puts_nowhere e F vs =
        subst (λ (x : Option state.Object). OnSome x missing (put_there F vs t (slot_of known s)) (Faults (Stuck why.Missing))) (sym (no_object known s h.objects.items o e)) refl

    module _ (told : Bool) (fit : IsTrue told ↔ IsIn p (this_viewed (path_at known id)) K t (value_of known v)) where
      pub puts_foreign : o < length h.objects.items → told ≡ false → PutsIn p known h o id s t v (did.Ended (ending.Stuck why.Foreign)) h
      puts_foreign l e F vs =
          let r = at_within h.objects.items o l in
          subst (λ (x : Option state.Object). OnSome x missing (put_there F vs t (slot_of known s)) (Faults (Stuck why.Foreign))) (sym (objects_at known s h.objects.items o r.0 r.1))
          (fails (not_when e fit) refl)

      pub puts : (i : Heap) → told ≡ true → StoredAt known h i o s v → PutsIn p known h o id s t v did.Went i
      puts i e k F vs =
          let d : does.Did = Goes (record F { vals = vs }) (heap_of known i) [] in
          subst (λ (x : Option state.Object). OnSome x missing (put_there F vs t (slot_of known s)) d) (sym k.at)
          (holds (fit.0 e) (ap (λ (z : state.Heap). Goes (record F { vals = vs }) z []) k.is))

  pub puts_field : (field : Name) (f : Frame) (r : Value) (one rest : List Value) (d : Did) (i : Heap) → f.vals ≡ v ∷ one → one ≡ r ∷ rest → r ≡ value.Reference o id
      → PutsAt p known h o id field v d i → (m : ℕ) → does.Does p m (acts.Put field) (frame_of known f) K (did_of known d (frame_of known (record f { vals = rest })) (heap_of known i))
  puts_field field f r one rest d i first second is k m =
      let F = frame_of known f in
      let e = did_of known d (frame_of known (record f { vals = rest })) (heap_of known i) in
      at_two known f r v one rest (λ r v vs. on_object r (put_object F field v vs)) e first second (at_object known r o id (put_object F field (value_of known v) (values_of known rest)) e is (k F (values_of known rest)))
    where
      put_object : state.Frame → Name → sem.Value → List sem.Value → ℕ → Path → Way
      put_object F field v vs o V =
          OnOnly (FieldType p V field) missing
          (λ t. OnOnly (IsSlot p V field) missing
          (λ s. OnSome (slice_get K.objects o) missing (λ x. OnTest (IsIn p (this_viewed V) K t v) foreign (goes F vs (with_slot K o x s v)))))

  module _ (field : Name) where
    abbrev V : Path
    V = path_at known id

    pub puts_no_type : ((t : Ty) → FieldType p V field t → ⊥) → PutsAt p known h o id field v (did.Ended (ending.Stuck why.Missing)) h
    puts_no_type n F vs =
        none_only (FieldType p V field) missing (λ (t : Ty). OnOnly (IsSlot p V field) missing (put_way p known h o id v F vs t)) _ n refl

    module _ (once : IsOne (FieldType p V field)) (t : Ty) (type : FieldType p V field t) where
      pub puts_no_slot : ((s : slots.Slot) → IsSlot p V field s → ⊥) → PutsAt p known h o id field v (did.Ended (ending.Stuck why.Missing)) h
      puts_no_slot n F vs =
          found_only (FieldType p V field) missing (λ (t : Ty). OnOnly (IsSlot p V field) missing (put_way p known h o id v F vs t)) _ once t type
          (none_only (IsSlot p V field) missing (put_way p known h o id v F vs t) _ n refl)

      pub puts_at : IsOne (IsSlot p V field) → (s : Slot) → IsSlot p V field (slot_of known s) → (d : Did) (i : Heap) → PutsIn p known h o id s t v d i
          → PutsAt p known h o id field v d i
      puts_at slots s is d i k F vs =
          found_only (FieldType p V field) missing (λ (t : Ty). OnOnly (IsSlot p V field) missing (put_way p known h o id v F vs t)) _ once t type
          (found_only (IsSlot p V field) missing (put_way p known h o id v F vs t) _ slots (slot_of known s) is (k F vs))
