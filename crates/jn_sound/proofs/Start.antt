-- The acts of the start: `new Main()`, and the call of `main` on it.
use Rattle.std.proofs.Common.{◌≡◌, ℕ, List, [], ◌∷◌, ◌++◌, ◌+◌, length, None, Bool, true, false, refl, sym, ap, ◌∙◌, subst, arith, eq-eqb}
use Rattle.std.specs.Prelude.{codes, nat_eq, nat_lt, nat_le}
use Rattle.jn_steps.specs.Steps.{Goes, Enters, Faults}
use Rattle.jn_base.specs.declared.tree.Name.{Name}
use Rattle.jn_base.specs.declared.tree.Program.{Program}
use Rattle.jn_base.specs.declared.tree.Param.{Param}
use Rattle.jn_base.specs.declared.names.Var.{Var}
use Rattle.jn_base.specs.Paths.{Path}
use Rattle.jn_base.specs.Atoms.{Among}
use Rattle.jn_sem.specs.Sets.{no_views}
use Rattle.jn_sem.specs.Values.{Value, Reference, HasField}
use Rattle.jn_sem.specs.Acts.{Begin, Open, Todo, todo}
use Rattle.jn_sem.specs.State.{Stored, Heap, Frame, Variable, HasValue, has_null_path, with_values, with_object}
use Rattle.jn_sem.specs.Asks.{OnFirst, OnIf, OnOnly, It}
use Rattle.jn_sem.specs.Does.{Body, IsBody, Entry, Did, Way, Does, Arena, Depth, AreFresh, IsSpelled, on_object, on_entry, on_cells, constructs, makes, calls, waiting, missing, ends}
use Rattle.jn_sem.specs.Run.{Then, frame_of, AreIn, acting, over, proceeds, enters}
use Rattle.jn_sem.proofs.FindingLaws.{finds_one}
use Rattle.jn_laws.specs.Reading.{RefersTo, IsReal}
use Rattle.jn_laws.specs.Surely.{Surely}
use Rattle.jn_laws.proofs.Universes.{sizes_there}
use Rattle.jn_rules.specs.Headers.{Header}
use Rattle.jn_rules.specs.Stmts.{at_start}
use Rattle.jn_rules.specs.Verdict.{HasMain}
use Rattle.jn_rule_laws.specs.LawsOfHeaders.{IsHeader}
use Rattle.jn_rule_laws.proofs.HeaderLaws.{header_back}
use Rattle.jn_rule_laws.proofs.Declared.{headers_of}
use Rattle.jn_sound.specs.Sound.{HeapFits, Starts, before, made, over as start_over, starts, NotStuck, SoundThen, InScope, Works, none as no_opds}
use Rattle.jn_sound.specs.Steps.{Begun}
use Rattle.jn_sound.proofs.Laws.{Laws}
use Rattle.jn_sound.proofs.Ways.{surely, and_so}
use Rattle.jn_sound.proofs.Safe.{Sure, sure_it, sure_only, sure_test, sure_if, sure_found}
use Rattle.jn_sound.proofs.Frames.{StartFits, then_it, start_settled, begun_over}
use Rattle.jn_sound.proofs.Fitted.{works_begun}
use Rattle.jn_sound.proofs.Calls.{take_whole}
use Rattle.jn_sound.proofs.Calls.{take_values}
use Rattle.jn_sound.proofs.NewObjects.{MadeAt, made_at}

-- ---- a body without parameters begins

-- a body that is there has a header
pub header_there : (p : Program) → Laws p → (V : Path) (m : Name) (b : Body) → IsBody p V m b
    → (x : Header) × IsHeader p b x
header_there p n V m b i =
    let h = (headers_of p n.passes.bodies.headers.limits.members.types.headers).methods b.class m b.method i.at in
    (h.0, header_back p b h.0 h.1)

pub body_begins : {p : Program} {h : Heap} → Laws p → HeapFits p h
    → (V : Path) (m : Name) (b : Body) (y : Header) (o : ℕ) (values : List Value) → IsBody p V m b → IsHeader p b y →
    RefersTo p h o V
    → ((g : Name) → HasField p V g → HasValue p h o V g) → length values ≡ length y.vars
    → has_null_path (with_values y.vars values) ≡ false → ((z : Value) → Among values z → IsReal p h z)
    → AreIn p (frame_of (record { class = b.class; method = b.method; vars = y.vars }) (Reference o V) values) h
    → Begun p h (frame_of (record { class = b.class; method = b.method; vars = y.vars }) (Reference o V) values)
body_begins {p} {h} n hf V m b y o values ib ih r filled e nn real ai = record {
  heap = hf;
  view = V;
  name = m;
  class = r.related.other;
  is_body = ib;
  header = y;
  todo = refl;
  stands = record {
    fresh = no_views;
    stands = record {
      is_header = ih;
      params = take_whole y.vars (length b.method.params) (n.param_count b y ih);
      all_params = omega (arith, n.param_count b y ih);
      in_scope =
          subst (λ (X : List Variable). InScope p h
          (record (frame_of (record { class = b.class; method = b.method; vars = y.vars })
          (Reference o V) values) { vars = X }) no_views y.vars (at_start b y).scope)
          (sym (take_values y.vars values)) (n.entry h V m b y o values ib ih r filled e nn real ai);
      operands = no_opds;
    };
  };
}

no_vars : (vs : List Var) → length vs ≡ 0 → vs ≡ []
no_vars [] e = refl
no_vars (v ∷ vs) e = absurd (omega (arith, e))

-- without arguments
bare_works : {p : Program} {h : Heap} → Laws p → HeapFits p h
    → (V : Path) (m : Name) (b : Body) (vars : List Var) (o : ℕ) → IsBody p V m b → b.method.params ≡ [] →
    (y : Header) → IsHeader p b y → vars ≡ y.vars
    → RefersTo p h o V → ((g : Name) → HasField p V g → HasValue p h o V g)
    → let e : Entry = record { class = b.class; method = b.method; vars = vars } in Works p h
    (frame_of e (Reference o V) []) (frame_of e (Reference o V) []).todo
bare_works {p} {h} n hf V m b vars o ib np y ih e r filled =
    subst (λ (l : List Var). Works p h
    (frame_of (record { class = b.class; method = b.method; vars = l }) (Reference o V) [])
    (frame_of (record { class = b.class; method = b.method; vars = l }) (Reference o V) []).todo) (sym e)
    (works_begun n (body_begins n hf V m b y o [] ib ih r filled (sym none) no_null (λ z a. elim a [ ])
    (λ x a. absurd (nothing y.vars x a)))) where
      none : length y.vars ≡ 0
      none = n.param_count b y ih ∙ ap (λ (l : List Param). length l) np

      no_values : (vs : List Var) → with_values vs [] ≡ []
      no_values [] = refl
      no_values (v ∷ vs) = refl

      no_null : has_null_path (with_values y.vars []) ≡ false
      no_null = ap has_null_path (no_values y.vars)

      nothing : (vs : List Var) (x : Variable) → Among (with_values vs []) x → ⊥
      nothing [] x a = elim a [ ]
      nothing (v ∷ vs) x a = elim a [ ]

-- ---- the start

not_stuck_depth : NotStuck Depth
not_stuck_depth w e = cc

pub not_stuck_arena : NotStuck Arena
not_stuck_arena w e = cc

-- what a step of the start leads to
pub record Starting (p : Program) (depth : ℕ) (out : List ℕ) (d : Did) : Type 0 where
  pub sound : (x : Then) → proceeds p depth d [] out x → Surely (SoundThen p x)

module _ {p : Program} (n : Laws p) (depth : ℕ) (out : List ℕ) where
  abbrev main : HasMain p
  main = n.passes.main

  abbrev Q : Did → Type 0
  Q = Starting p depth out

  goes_on : (f : Frame) (i : Heap) → HeapFits p i → Starts p i f → Starting p depth out (Goes f i [])
  goes_on f i hf s = record { sound = λ x b. then_it p _ x (start_settled p i hf f (out ++ []) s) b }

  -- a body without parameters is called, over the frame of the start
  calls_bare : (i : Heap) (V : Path) (m : Name) (b : Body) (vars : List Var) (o : ℕ) (g : Frame) → HeapFits p i
      → IsBody p V m b → b.method.params ≡ [] → (y : Header) → IsHeader p b y → vars ≡ y.vars
      → RefersTo p i o V → ((z : Name) → HasField p V z → HasValue p i o V z) → Starts p i g → g.keeps ≡ false
      → Starting p depth out (Enters (record { class = b.class; method = b.method; vars = vars })
      (Reference o V ∷ []) g i)
  calls_bare i V m b vars o g hf ib np y ih e r filled s keeps =
      record { sound = λ x c. at x (nat_lt 0 depth) c } where
        new : Frame
        new = frame_of (record { class = b.class; method = b.method; vars = vars }) (Reference o V) []

        nothing : (vs : List Var) (x : Variable) → Among (with_values vs []) x → ⊥
        nothing [] x a = elim a [ ]
        nothing (v ∷ vs) x a = elim a [ ]

        entering : (x : Then)
            → enters p (record { class = b.class; method = b.method; vars = vars }) (Reference o V ∷ [])
            (g ∷ []) i out x
            → Surely (SoundThen p x)
        entering x c = begun_over p n i new (g ∷ []) out x hf (λ nn. surely (λ z a. absurd (nothing vars z a)))
            (λ nn ai. surely (bare_works n hf V m b vars o ib np y ih e r filled)) (starts s keeps) c

        at : (x : Then) (z : Bool)
            → OnIf z (It (over Depth out)) (enters p (record { class = b.class; method = b.method; vars = vars })
            (Reference o V ∷ []) (g ∷ []) i out) x → Surely (SoundThen p x)
        at x true c = entering x c
        at x false c = then_it p (over Depth out) x not_stuck_depth c

  no_arguments : (b : Body) → b.method.params ≡ [] → nat_eq 0 (length b.method.params) ≡ true
  no_arguments b np = eq-eqb 0 (length b.method.params) (sym (ap (λ (l : List Param). length l) np))

  wrong : true ≡ false → ⊥
  wrong e = cc

  -- with its parameters, which are none
  entry_bare : (b : Body) (go : Entry → Way) → b.method.params ≡ [] → (y : Header) → IsHeader p b y
      → ((vars : List Var) → vars ≡ y.vars → Sure (Starting p depth out)
      (go (record { class = b.class; method = b.method; vars = vars })))
      → Sure (Starting p depth out) (on_entry p b [] go)
  entry_bare b go np y ih each =
      sure_if (nat_eq 0 (length b.method.params)) (λ no. absurd (wrong (sym (no_arguments b np) ∙ no)))
      (λ yes. sure_only (surely (y.vars, ih.params)) (λ A B j l. (finds_one p).params b B A l j)
      (λ vars iv. each vars ((finds_one p).params b vars y.vars iv ih.params)))

  module _ (h : Heap) (capacity : ℕ) (g : Frame) (hf : HeapFits p h) (todo_is : g.todo ≡ todo 0 Open ∷ [])
      (vals_are : g.vals ≡ []) (no_result : g.method.result ≡ None) where
    abbrev V : Path
    V = n.passes.main.main_class ∷ []

    begins_with : (size : ℕ) (xs : List Stored) → AreFresh p (n.passes.main.main_class ∷ []) xs
        → Sure (Starting p depth out) (constructs p capacity (n.passes.main.main_class ∷ []) [] true g g.vals h size xs)
    begins_with size xs fresh =
        sure_found (sure_if (nat_le (h.used + size) capacity) {Else = ends Arena}
        (λ no. sure_it (Faults Arena) (surely
        (record { sound = λ x b. then_it p (over Arena out) x not_stuck_arena b })))
        (λ yes. sure_it _ (surely (goes_on (record g { vals = r ∷ g.vals }) i m.heap
        (made_state (record g { vals = r ∷ g.vals }) todo_is vals no_result)))))
        (λ b ib. let y = header_there p n V n.passes.main.main_class b ib in
        entry_bare b (λ e. on_cells capacity h size (It (Enters e (r ∷ []) (waiting false g (r ∷ g.vals)) i)))
        (n.passes.main.constructor b ib) y.0 y.1 (λ vars iv.
        sure_if (nat_le (h.used + size) capacity) {Else = ends Arena}
        (λ no. sure_it (Faults Arena) (surely
        (record { sound = λ x c. then_it p (over Arena out) x not_stuck_arena c })))
        (λ yes. sure_it _ (surely (calls_bare i V n.passes.main.main_class b vars (length h.objects)
        (waiting false g (r ∷ g.vals)) m.heap ib (n.passes.main.constructor b ib) y.0 y.1 iv m.refers m.filled
        (made_state (waiting false g (r ∷ g.vals)) todo_is vals no_result) refl))))) where
          r : Value
          r = Reference (length h.objects) (n.passes.main.main_class ∷ [])

          i : Heap
          i = with_object h size (record { made = n.passes.main.main_class ∷ []; stored = xs })

          m : MadeAt p h size (n.passes.main.main_class ∷ []) xs
          m = made_at p n h size V xs hf n.passes.main.class fresh

          vals : r ∷ g.vals ≡ r ∷ []
          vals = ap (λ (l : List Value). r ∷ l) vals_are

          made_state : (k : Frame) → k.todo ≡ todo 0 Open ∷ [] → k.vals ≡ r ∷ [] → k.method.result ≡ None
              → Starts p i k
          made_state k a b c =
              made (length h.objects) n.passes.main.main_class a b c n.passes.main.class_spelled m.refers m.filled

    begin_sure : Sure (Starting p depth out) (Does p capacity Begin g h)
    begin_sure =
        sure_only (surely (n.passes.main.main_class, n.passes.main.class_spelled))
        (λ A B j l. n.once.spelled (codes "Main") B A l j) (λ c ic.
        subst (λ (z : Name). Sure (Starting p depth out) (makes p capacity (z ∷ []) [] true g g.vals h))
        (n.once.spelled (codes "Main") n.passes.main.main_class c n.passes.main.class_spelled ic)
        (sure_test (surely n.passes.main.class) (λ class.
        sure_only (sizes_there p V n.passes.main.class) (λ A B j l. (finds_one p).size V B A l j) (λ size is.
        sure_only (n.fields.fresh n.within.formed n.within.named V n.passes.main.class)
        (λ A B j l. n.once.fresh V B A l j) (λ xs fresh.
        begins_with size xs fresh)))))

  module _ (h : Heap) (capacity : ℕ) (g : Frame) (hf : HeapFits p h) (todo_is : g.todo ≡ [])
      (no_result : g.method.result ≡ None) (o : ℕ) (M : Name) (spelled : IsSpelled p (codes "Main") M)
      (vals_are : g.vals ≡ Reference o (M ∷ []) ∷ []) (refers : RefersTo p h o (M ∷ []))
      (filled : (z : Name) → HasField p (M ∷ []) z → HasValue p h o (M ∷ []) z) where
    same_main : n.passes.main.main_class ≡ M
    same_main = n.once.spelled (codes "Main") n.passes.main.main_class M n.passes.main.class_spelled spelled

    is_main : IsBody p (M ∷ []) n.passes.main.main n.passes.main.body
    is_main = subst (λ (z : Name). IsBody p (z ∷ []) n.passes.main.main n.passes.main.body) same_main n.passes.main.is

    called : Sure (Starting p depth out)
        (calls p (M ∷ []) n.passes.main.main (Reference o (M ∷ [])) [] (waiting false g []) h)
    called =
        let y = header_there p n (M ∷ []) n.passes.main.main n.passes.main.body is_main in
        sure_only (surely (n.passes.main.body, is_main))
        (λ A B j l. n.body_one (M ∷ []) n.passes.main.main B A refers.related.other l j) (λ b ib.
        subst (λ (z : Body). Sure (Starting p depth out)
        (on_entry p z [] (λ e. It (Enters e (Reference o (M ∷ []) ∷ []) (waiting false g []) h))))
        (n.body_one (M ∷ []) n.passes.main.main n.passes.main.body b refers.related.other is_main ib)
        (entry_bare n.passes.main.body (λ e. It
        (Enters e (Reference o (M ∷ []) ∷ []) (waiting false g []) h)) n.passes.main.no_params y.0 y.1 (λ vars iv.
        sure_it _ (surely (calls_bare h (M ∷ []) n.passes.main.main n.passes.main.body vars o
        (waiting false g []) hf is_main n.passes.main.no_params y.0 y.1 iv refers filled
        (start_over todo_is no_result) refl)))))

    open_sure : Sure (Starting p depth out) (Does p capacity Open g h)
    open_sure =
        subst (λ (l : List Value). Sure (Starting p depth out)
        (OnFirst l missing (λ r vs. on_object r
        (λ z V. OnOnly (IsSpelled p (codes "main")) missing (λ m. calls p V m r [] (waiting false g vs) h)))))
        (sym vals_are)
        (sure_only (surely (n.passes.main.main, n.passes.main.main_spelled))
        (λ A B j l. n.once.spelled (codes "main") B A l j) (λ m im.
        subst (λ (z : Name). Sure (Starting p depth out)
        (calls p (M ∷ []) z (Reference o (M ∷ [])) [] (waiting false g []) h))
        (n.once.spelled (codes "main") n.passes.main.main m n.passes.main.main_spelled im) called))

-- ---- both acts

first_is : {t u : Todo} {k l : List Todo} → t ∷ k ≡ u ∷ l → (t ≡ u) × (k ≡ l)
first_is e = (cc, cc)

none_left : {t : Todo} {k : List Todo} → [] ≡ t ∷ k → ⊥
none_left e = cc

pub start_fits : (p : Program) → Laws p → StartFits p
start_fits p n capacity depth h f t k out x hf s e c = at s where
  by : {a : Todo} → t ≡ a → Sure (Starting p depth out) (Does p capacity a.act (acting a k f) h)
      → Surely (SoundThen p x)
  by i sure =
      and_so ((subst (λ (z : Todo). Sure (Starting p depth out) (Does p capacity z.act (acting z k f) h))
      (sym i) sure).each c.did c.does) (λ z. z.sound x c.proceeds)

  at : Starts p h f → Surely (SoundThen p x)
  at (before a v r) =
      let i = first_is (sym e ∙ a) in by i.0 (begin_sure n depth out h capacity (acting (todo 0 Begin) k f) hf i.1 v r)
  at (made o M a v r sp rf g) =
      let i = first_is (sym e ∙ a) in by i.0
      (open_sure n depth out h capacity (acting (todo 0 Open) k f) hf i.1 r o M sp v rf g)
  at (start_over a r) = absurd (none_left (sym a ∙ e))
