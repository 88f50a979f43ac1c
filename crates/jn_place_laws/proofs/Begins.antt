-- The frame that starts the program: an object of Main is made, and `main` is called on it.
use Rattle.std.proofs.Common.{◌≡◌, ◌+◌, ℕ, suc, List, [], ◌∷◌, length, Option, Some, None, true, false, refl, sym, ap, ◌∙◌, subst, arith, eq-eqb}
use Rattle.std.specs.Prelude.{codes, nat_eq, nat_le, slice_get, IsSome}
use Rattle.std.specs.Option.{option_map, option_and_then}
use Rattle.jn_steps.specs.Steps.{Goes, Enters, Leaves, Falls, Faults}
use Rattle.jn_base.specs.declared.tree.Name.{Name}
use Rattle.jn_base.specs.declared.tree.Program.{Program}
use Rattle.jn_base.specs.declared.tree.Param.{Param}
use Rattle.jn_base.specs.declared.names.Var.{Var}
use Rattle.jn_base.specs.Paths.{Path}
use Rattle.jn_sem.specs.Values.{Value, Reference, HasField}
use Rattle.jn_sem.specs.Acts.{Begin, Open}
use Rattle.jn_sem.specs.LawsOfHeaps.{Later, GrownAt}
use Rattle.jn_sem.specs.Slots.{Slot}
use Rattle.jn_sem.specs.State.{Stored, Object, slot_value, stored_value, Heap, Frame, HasValue, has_null_path, with_values, with_object}
use Rattle.jn_sem.specs.Asks.{OnFirst, OnOnly, It}
use Rattle.jn_sem.specs.Does.{Body, IsBody, Entry, Did, Way, Does, Arena, AreFresh, IsSpelled, on_object, on_entry, on_cells, constructs, makes, calls, waiting, missing, ends}
use Rattle.jn_sem.specs.Run.{frame_of, AreIn, given}
use Rattle.jn_sem.proofs.FindingLaws.{finds_one}
use Rattle.jn_laws.specs.Reading.{RefersTo}
use Rattle.jn_laws.specs.Surely.{Surely}
use Rattle.jn_laws.proofs.Universes.{sizes_there}
use Rattle.jn_rules.specs.Headers.{Header}
use Rattle.jn_rule_laws.specs.LawsOfHeaders.{IsHeader}
use Rattle.jn_sound.specs.Sound.{HeapFits, GivesBack}
use Rattle.jn_sound.specs.Steps.{Begun}
use Rattle.jn_sound.proofs.Laws.{Laws}
use Rattle.jn_sound.proofs.Start.{header_there, body_begins}
use Rattle.jn_sound.proofs.Ways.{surely, and_so}
use Rattle.jn_sound.proofs.Safe.{Sure, sure_it, sure_only, sure_test, sure_if, sure_found}
use Rattle.jn_sound.proofs.Frames.{real_later}
use Rattle.jn_sound.proofs.NewObjects.{MadeAt, made_at}
use Rattle.jn_agree.specs.Follows.{MayEnter, entered}
use Rattle.jn_place_laws.specs.Contexts.{known}
use Rattle.jn_place_laws.proofs.Stable.{sure_nat}

-- before `new Main()`, before the call of `main`, and behind it
pub record Before (p : Program) (f : Frame) (h : Heap) : Type 0 where
  pub heap : HeapFits p h
  pub vals : f.vals ≡ []

pub record MadeMain (p : Program) (f : Frame) (h : Heap) : Type 0 where
  pub heap : HeapFits p h
  pub object : ℕ
  pub class : Name
  pub vals : f.vals ≡ Reference object (class ∷ []) ∷ []
  pub spelled : IsSpelled p (codes "Main") class
  pub refers : RefersTo p h object (class ∷ [])
  pub filled : (z : Name) → HasField p (class ∷ []) z → HasValue p h object (class ∷ []) z

pub data Stage : Type 0 where
  before : Stage
  made : Stage
  over : Stage

abbrev pub IsAt : Program → Stage → Frame → Heap → Type 0
IsAt p before f h = Before p f h
IsAt p made f h = MadeMain p f h
IsAt p over f h = HeapFits p h

abbrev pub StandsAt : Program → Stage → Frame → Heap → Type 0
StandsAt p t f h = Surely (IsAt p t f h)

-- what an act of the start does, where it leads to that stage
abbrev pub Leads : Program → Stage → Did → Type 0
Leads p t (Goes g h bytes) = StandsAt p t g h
Leads p t (Enters e args g h) =
    MayEnter (known p) e args h
    × ((y : Heap) (v : Option Value) → Later h y → Surely (GivesBack p (entered e args) y v) → StandsAt p t (given v g) y)
Leads p t (Leaves v h) = ⊥
Leads p t Falls = Unit {0}
Leads p t (Faults o) = Unit {0}

pub leads_stable : (p : Program) (t : Stage) (d : Did) → Surely (Leads p t d) → Leads p t d
leads_stable p t (Goes g h bytes) s = and_so s (λ a. a)
leads_stable p t (Enters e args g h) s = (
  record {
    long = sure_nat (length args) (suc (length e.vars)) (and_so s (λ a. surely a.0.long));
    ready = λ nn ai. and_so s (λ a. a.0.ready nn ai);
  },
  λ y v l b. and_so s (λ a. a.1 y v l b),
)
leads_stable p t (Leaves v h) s = absurd (s (λ a. a))
leads_stable p t Falls s = tt
leads_stable p t (Faults o) s = tt

-- ---- in a later heap

found_later : (i : Heap) (o : ℕ) (s : Slot) (x : Object) → GrownAt i o x → IsSome (stored_value x.stored s)
    → IsSome (slot_value i o s)
found_later i o s x g v =
    subst (λ (y : Option Object). IsSome (option_and_then (λ (z : Object). stored_value z.stored s) y)) (sym g.at)
    (g.grows.values s v)

slot_later : (h i : Heap) (o : ℕ) (s : Slot) → Later h i → IsSome (slot_value h o s) → IsSome (slot_value i o s)
slot_later h i o s l v = at (slice_get h.objects o) refl v where
  not_none : IsSome (option_map (λ (z : Object). z) None) → ⊥
  not_none e = cc

  at : (y : Option Object) → slice_get h.objects o ≡ y
      → IsSome (option_and_then (λ (z : Object). stored_value z.stored s) y) → IsSome (slot_value i o s)
  at None e w = absurd (not_none w)
  at (Some x) e w = found_later i o s x (l.objects o x e) w

filled_later : (p : Program) (h i : Heap) (o : ℕ) (V : Path) (f : Name) → Later h i → HasValue p h o V f
    → HasValue p i o V f
filled_later p h i o V f l k = record { slot = k.slot; is_slot = k.is_slot; has = slot_later h i o k.slot l k.has }

-- ---- the two acts

no_values : (vs : List Var) → with_values vs [] ≡ []
no_values [] = refl
no_values (v ∷ vs) = refl

module _ {p : Program} (n : Laws p) where
  -- a body without parameters is called
  calls_bare : (t : Stage) (i : Heap) (V : Path) (m : Name) (b : Body) (vars : List Var) (o : ℕ) (g : Frame)
      → HeapFits p i → IsBody p V m b → b.method.params ≡ [] → (y : Header) → IsHeader p b y → vars ≡ y.vars
      → RefersTo p i o V → ((z : Name) → HasField p V z → HasValue p i o V z)
      → ((j : Heap) (v : Option Value) → Later i j → HeapFits p j → IsAt p t (given v g) j)
      → Leads p t (Enters (record { class = b.class; method = b.method; vars = vars }) (Reference o V ∷ []) g i)
  calls_bare t i V m b vars o g hf ib np y ih e r filled after = (
    record {
      long = omega (arith, none, ap (λ (l : List Var). length l) e);
      ready = subst (λ (l : List Var). has_null_path (with_values l []) ≡ false
          → AreIn p (frame_of (record { class = b.class; method = b.method; vars = l }) (Reference o V) []) i
          → Surely (Begun p i (frame_of (record { class = b.class; method = b.method; vars = l }) (Reference o V) [])))
          (sym e) (λ nn ai. surely (body_begins n hf V m b y o [] ib ih r filled (sym none) nn (λ z a. elim a [ ]) ai));
    },
    λ j v l back. and_so back (λ k. surely (after j v l k.heap)),
  ) where
    none : length y.vars ≡ 0
    none = n.param_count b y ih ∙ ap (λ (l : List Param). length l) np

  wrong : true ≡ false → ⊥
  wrong e = cc

  -- with its parameters, which are none
  entry_bare : (t : Stage) (b : Body) (go : Entry → Way) → b.method.params ≡ [] → (y : Header) → IsHeader p b y
      → ((vars : List Var) → vars ≡ y.vars → Sure (Leads p t)
      (go (record { class = b.class; method = b.method; vars = vars })))
      → Sure (Leads p t) (on_entry p b [] go)
  entry_bare t b go np y ih each =
      sure_if (nat_eq 0 (length b.method.params))
      (λ no. absurd (wrong (sym (eq-eqb 0 (length b.method.params) (sym (ap (λ (l : List Param). length l) np))) ∙ no)))
      (λ yes. sure_only (surely (y.vars, ih.params)) (λ A B j l. (finds_one p).params b B A l j)
      (λ vars iv. each vars ((finds_one p).params b vars y.vars iv ih.params)))

  module _ (h : Heap) (capacity : ℕ) (g : Frame) (hf : HeapFits p h) (vals_are : g.vals ≡ []) where
    abbrev V : Path
    V = n.passes.main.main_class ∷ []

    begins_with : (size : ℕ) (xs : List Stored) → AreFresh p (n.passes.main.main_class ∷ []) xs
        → Sure (Leads p made) (constructs p capacity (n.passes.main.main_class ∷ []) [] true g g.vals h size xs)
    begins_with size xs fresh =
        sure_found (sure_if (nat_le (h.used + size) capacity) {Else = ends Arena}
        (λ no. sure_it (Faults Arena) (surely tt))
        (λ yes. sure_it _ (surely (surely (state (record g { vals = r ∷ g.vals }) vals i m.heap m.refers m.filled)))))
        (λ b ib. let y = header_there p n V n.passes.main.main_class b ib in
        entry_bare made b (λ e. on_cells capacity h size (It (Enters e (r ∷ []) (waiting false g (r ∷ g.vals)) i)))
        (n.passes.main.constructor b ib) y.0 y.1 (λ vars iv.
        sure_if (nat_le (h.used + size) capacity) {Else = ends Arena} (λ no. sure_it (Faults Arena) (surely tt))
        (λ yes. sure_it _ (surely (calls_bare made i V n.passes.main.main_class b vars (length h.objects)
        (waiting false g (r ∷ g.vals)) m.heap ib (n.passes.main.constructor b ib) y.0 y.1 iv m.refers m.filled after)))))
      where
        r : Value
        r = Reference (length h.objects) (n.passes.main.main_class ∷ [])

        i : Heap
        i = with_object h size (record { made = n.passes.main.main_class ∷ []; stored = xs })

        m : MadeAt p h size (n.passes.main.main_class ∷ []) xs
        m = made_at p n h size V xs hf n.passes.main.class fresh

        vals : r ∷ g.vals ≡ r ∷ []
        vals = ap (λ (l : List Value). r ∷ l) vals_are

        state : (k : Frame) → k.vals ≡ r ∷ [] → (j : Heap) → HeapFits p j → RefersTo p j (length h.objects) V
            → ((z : Name) → HasField p V z → HasValue p j (length h.objects) V z) → MadeMain p k j
        state k e j fits refers filled = record {
          heap = fits;
          object = length h.objects;
          class = n.passes.main.main_class;
          vals = e;
          spelled = n.passes.main.class_spelled;
          refers = refers;
          filled = filled;
        }

        after : (j : Heap) (v : Option Value) → Later i j → HeapFits p j
            → MadeMain p (given v (waiting false g (r ∷ g.vals))) j
        after j None l fits = state (waiting false g (r ∷ g.vals)) vals j fits
            (real_later p i j (Reference (length h.objects) V) l m.refers)
            (λ z has. filled_later p i j (length h.objects) V z l (m.filled z has))
        after j (Some v) l fits = state (given (Some v) (waiting false g (r ∷ g.vals))) vals j fits
            (real_later p i j (Reference (length h.objects) V) l m.refers)
            (λ z has. filled_later p i j (length h.objects) V z l (m.filled z has))

    pub begin_sure : Sure (Leads p made) (Does p capacity Begin g h)
    begin_sure =
        sure_only (surely (n.passes.main.main_class, n.passes.main.class_spelled))
        (λ A B j l. n.once.spelled (codes "Main") B A l j) (λ c ic.
        subst (λ (z : Name). Sure (Leads p made) (makes p capacity (z ∷ []) [] true g g.vals h))
        (n.once.spelled (codes "Main") n.passes.main.main_class c n.passes.main.class_spelled ic)
        (sure_test (surely n.passes.main.class) (λ class.
        sure_only (sizes_there p V n.passes.main.class) (λ A B j l. (finds_one p).size V B A l j) (λ size is.
        sure_only (n.fields.fresh n.within.formed n.within.named V n.passes.main.class)
        (λ A B j l. n.once.fresh V B A l j) (λ xs fresh. begins_with size xs fresh)))))

  module _ (h : Heap) (capacity : ℕ) (g : Frame) (a : MadeMain p g h) where
    same_main : n.passes.main.main_class ≡ a.class
    same_main = n.once.spelled (codes "Main") n.passes.main.main_class a.class n.passes.main.class_spelled a.spelled

    is_main : IsBody p (a.class ∷ []) n.passes.main.main n.passes.main.body
    is_main = subst (λ (z : Name). IsBody p (z ∷ []) n.passes.main.main n.passes.main.body) same_main n.passes.main.is

    called : Sure (Leads p over)
        (calls p (a.class ∷ []) n.passes.main.main (Reference a.object (a.class ∷ [])) [] (waiting false g []) h)
    called =
        let y = header_there p n (a.class ∷ []) n.passes.main.main n.passes.main.body is_main in
        sure_only (surely (n.passes.main.body, is_main))
        (λ A B j l. n.body_one (a.class ∷ []) n.passes.main.main B A a.refers.related.other l j) (λ b ib.
        subst (λ (z : Body). Sure (Leads p over)
        (on_entry p z [] (λ e. It (Enters e (Reference a.object (a.class ∷ []) ∷ []) (waiting false g []) h))))
        (n.body_one (a.class ∷ []) n.passes.main.main n.passes.main.body b a.refers.related.other is_main ib)
        (entry_bare over n.passes.main.body (λ e. It
        (Enters e (Reference a.object (a.class ∷ []) ∷ []) (waiting false g []) h)) n.passes.main.no_params y.0 y.1
        (λ vars iv. sure_it _ (surely (calls_bare over h (a.class ∷ []) n.passes.main.main n.passes.main.body vars a.object
        (waiting false g []) a.heap is_main n.passes.main.no_params y.0 y.1 iv a.refers a.filled
        (λ j v l fits. fits))))))

    pub open_sure : Sure (Leads p over) (Does p capacity Open g h)
    open_sure =
        subst (λ (l : List Value). Sure (Leads p over)
        (OnFirst l missing (λ r vs. on_object r
        (λ z V. OnOnly (IsSpelled p (codes "main")) missing (λ m. calls p V m r [] (waiting false g vs) h)))))
        (sym a.vals)
        (sure_only (surely (n.passes.main.main, n.passes.main.main_spelled))
        (λ A B j l. n.once.spelled (codes "main") B A l j) (λ m im.
        subst (λ (z : Name). Sure (Leads p over)
        (calls p (a.class ∷ []) z (Reference a.object (a.class ∷ [])) [] (waiting false g []) h))
        (n.once.spelled (codes "main") n.passes.main.main m n.passes.main.main_spelled im) called))
