-- `super`, without arguments and with them.
use Rattle.std.proofs.Common.{◌≡◌, ℕ, suc, ◌+◌, ◌*◌, ◌<◌, ◌≤◌, List, [], ◌∷◌, length, Some, Bool, true, refl, sym, ap, ◌∙◌, subst, arith, nat_eq}
use Rattle.std.specs.Prelude.{ℤ, pos, slice_get, slice_set, get_or}
use Rattle.std.proofs.lemmas.Option.{slice_get-get_or}
use Rattle.jn_base.specs.declared.names.Var.{Var}
use Rattle.jn_base.specs.Atoms.{Among}
use Rattle.std.proofs.lemmas.Bool.{eqb-true}
use Rattle.jn_steps.specs.Steps.{Goes, Enters, Faults, on_some, on_one, on_args}
use Rattle.jn_base.specs.declared.tree.Name.{Name}
use Rattle.jn_base.specs.declared.tree.Term.{Term}
use Rattle.jn_base.specs.declared.tree.Program.{Program}
use Rattle.jn_base.specs.Paths.{Path}
use Rattle.jn_code.specs.declared.instr.Instr.TheVariants as ins
use Rattle.jn_code.specs.declared.image.Image.{Image}
use Rattle.jn_code.specs.declared.image.Code.{Code}
use Rattle.jn_code.specs.declared.image.Shape.{Shape}
use Rattle.jn_code.specs.declared.image.ClassRow.{ClassRow}
use Rattle.jn_code.specs.Machine.{Ref, move, ref_in, code_in, waits}
use Rattle.jn_code.specs.Machine as machine
use Rattle.jn_code.proofs.Words.{ref_in_word}
use Rattle.jn_sem.specs.declared.outcome.Why.{Why}
use Rattle.jn_sem.specs.Values.{Value, Reference}
use Rattle.jn_sem.specs.Terms.{Site, SuperBound}
use Rattle.jn_sem.specs.Asks.{Only}
use Rattle.jn_sem.specs.Acts.{Super, Todo, todo}
use Rattle.jn_sem.specs.State.{Heap, Frame, site_of}
use Rattle.jn_sem.specs.Does.{Stuck, Did, Body, IsBody, AreParams, Entry, args_of, calls}
use Rattle.jn_agree.specs.Naming.{Naming, First, IsWord, WordsAre}
use Rattle.jn_agree.specs.Matches.{World, Matches}
use Rattle.jn_agree.specs.Rows.{RowsAre}
use Rattle.jn_node_laws.specs.Facts.{CallsBody, ThisRefers, ScratchLocal}
use Rattle.jn_agree.specs.Follows.{Knows, blank, quiet, Follows, LocalAt, entered, rate}
use Rattle.jn_node_laws.specs.Cont.{of_frame, of_this, Layout, LaidOut, TakesAll, with_result, PlacedOn, trimmed, active, ContOn, LeadsTo}
use Rattle.jn_agree.specs.Places.{At, Run, MethodOf, dropping, tuck}
use Rattle.jn_link_laws.proofs.Link.{onward_itself}
use Rattle.jn_match_laws.proofs.RowLaws.{row_at, block_low}
use Rattle.jn_node_laws.proofs.Ways.{w_only, w_if, w_some, arg_words, args_long}
use Rattle.jn_node_laws.proofs.Gets.{some_goes}
use Rattle.jn_node_laws.proofs.Calls.{paid_by, params_long, shape_at, back}
use Rattle.jn_node_laws.proofs.Binds.{same_site, stores}
use Rattle.jn_node_laws.proofs.Variables.{declared_among}
use Rattle.jn_code.proofs.Sound.{set_same, set_other, set_long}
use Rattle.jn_node_laws.proofs.Quiet.{later, quiet_one, quiet_then, comes_quiet}
use Rattle.jn_node_laws.proofs.Nodes.{node_of, Next, moved, stuck, comes, with_operands}

-- `this` below the operands
record Tucked (p : Program) (n : Naming) (firsts : List First) (this : Value) (l : Layout) (vs : List Value)
    (ws : List ℤ) : Type 0 where
  pub word : ℤ
  pub rest : List ℤ
  pub is : ws ≡ word ∷ rest
  pub this_word : IsWord p n firsts this word
  pub others : LaidOut p n firsts this l vs rest

tucked_there : (p : Program) (n : Naming) (firsts : List First) (this : Value) (l : Layout) (vs : List Value)
    (ws : List ℤ) → LaidOut p n firsts this (of_this ∷ l) vs ws → Tucked p n firsts this l vs ws
tucked_there p n firsts this l vs [] e = absurd e
tucked_there p n firsts this l vs (z ∷ zs) e =
    record { word = z; rest = zs; is = refl; this_word = e.0; others = e.1 }

module _ (p : Program) (i : Image) (n : Naming) (m : ℕ) (K : Knows) (T : Type 0) (Stands : T → Frame → Heap → Type 0)
    (code : ℕ) (it : Code) (there : slice_get i.codes code ≡ Some it) (r : Frame) (rows : RowsAre p i n) where
  -- CALLAT, up to the body that is entered
  super_at : (s j kx kc : ℕ) (shape : Shape) (row : ClassRow) (ref : Ref) (lv zs words below a : List ℤ) (z : ℤ)
      (keeps : Bool)
      → At it.instrs s (ins.Callat j) → slice_get i.methods j ≡ Some shape
      → ((go : List ℤ → List ℤ → machine.Did) → on_args machine.Stuck (length shape.params) [] zs go ≡ go words
      (z ∷ below))
      → ref_in z ≡ Some ref → slice_get i.classes kx ≡ Some row → code_in row j ≡ Some kc
      → move i m (active code s lv (pos kx ∷ zs) keeps) a ≡ Enters kc (z ∷ words)
      (active code (s + 1) lv below true) a
  super_at s j kx kc shape row ref lv zs words below a z keeps at shaped takes refers rowed coded =
      let g = active code s lv (pos kx ∷ zs) keeps in
      let of_code : ℕ → machine.Did = λ b. Enters b (z ∷ words) (waits true g below) a in
      let of_row : ClassRow → machine.Did = λ row. on_some machine.Null (code_in row j) of_code in
      let of_ref : Ref → machine.Did = λ r. on_some machine.Stuck (slice_get i.classes kx) of_row in
      let of_args : List ℤ → List ℤ → machine.Did = λ args below. on_one machine.Stuck below
      (λ z vs. on_some machine.Null (ref_in z)
      (λ r. on_some machine.Stuck (slice_get i.classes kx)
      (λ (row : ClassRow). on_some machine.Null (code_in row j) (λ b. Enters b (z ∷ args) (waits true g vs) a)))) in
      let of_shape : Shape → machine.Did = λ sh. on_args machine.Stuck (length sh.params) [] zs of_args in
      moved p i n m K T Stands code it there r s (ins.Callat j) lv (pos kx ∷ zs) a keeps at
      ∙ some_goes machine.Stuck (slice_get i.methods j) shape of_shape shaped
      ∙ takes of_args
      ∙ some_goes machine.Null (ref_in z) ref of_ref refers
      ∙ some_goes machine.Stuck (slice_get i.classes kx) row of_row rowed
      ∙ some_goes machine.Null (code_in row j) kc of_code coded

  -- The class is had, with the receiver and the arguments below it: the body is entered.
  module _ (q l : Layout) (b : ℕ) (here : Site) (t : T) (name : Name) (keeps : Bool) (B : Path) (kx j : ℕ)
      (shape : Shape) (k : List Todo) (s o e c num u w : ℕ) (classed : slice_get n.classes kx ≡ Some B)
      (at_call : At it.instrs o (ins.Callat j)) (runs : Run it.instrs (dropping keeps shape.result) (o + 1) e)
      (sel : MethodOf n name j shape) (bodies : (b : Body) → IsBody p B name b → CallsBody p b shape)
      (h : ContOn p i n m K T Stands code it r (with_result keeps shape.result l) b here t k e u)
      (pays : c + (9 + (3 * num + u)) ≤ rate + w) where
    abbrev Shown : Frame → World → (a lv zs : List ℤ) → Bool → Did → Type 0
    Shown f x a lv zs kp d = Follows p i n m blank (Next p i n m K T Stands code it there r here t b) r d x
        (active code s lv zs kp) a w

    calls_there : (f : Frame) (x : World) (a lv zs at : List ℤ) (kp : Bool) → f.todo ≡ k →
        PlacedOn p n it r here q f x lv zs → Matches p i n x a → ThisRefers f → (args vs : List Value)
        (z : ℤ) (words below : List ℤ) → length args ≡ num →
        ((go : List ℤ → List ℤ → machine.Did) → on_args machine.Stuck (length shape.params) [] at go ≡ go words
        (z ∷ below)) → IsWord p n x.firsts f.this z → WordsAre p n x.firsts args words →
        LaidOut p n x.firsts f.this l vs below → (steps : ℕ) → steps + 1 ≤ c →
        quiet i m steps (active code s lv zs kp) a ≡ Some (active code o lv (pos kx ∷ at) kp, a) → (d : Did) →
        calls p B name f.this args (record f { vals = vs; keeps = keeps }) x.heap d → Shown f x a lv zs kp d
    calls_there f x a lv zs at kp ft placed ma this args vs z words below long takes this_word aws bws steps few had d
        step =
        let Q : Did → Type 0 = λ d. Shown f x a lv zs kp d in
        let no_way : (d : Did) (w : Why) → d ≡ Faults (Stuck w) → Q d = λ d2 why e.
        stuck p i n m K T Stands code it there r b here t why x (active code s lv zs kp) a w d2 e in
        w_only Q no_way (IsBody p B name) _ d step (λ body only step.
        w_if Q no_way (nat_eq (length args) (length body.method.params)) _ d step (λ as_many step.
        w_only Q no_way (AreParams p body) _ d step (λ vars onlyp step.
        let word : IsWord p n x.firsts (Reference this.0 this.1) z = subst
        (λ (v : Value). IsWord p n x.firsts v z) this.2 this_word in
        let is_ref = word.is in
        let low = (block_low i n x.heap.objects x.firsts 0 (length a) this.0 is_ref.1 ma.blocks is_ref.3).3 in
        let small = ma.small in
        let ref : Ref = record { view = is_ref.0; cell = is_ref.1.cell } in
        let row = row_at p i n rows B kx classed in
        let found = rows.bodies B name body kx classed only.is in
        let own = bodies body only.is in
        let coded = row.2.has_method j found.0 (record {
          sel = record { name = name; shape = shape };
          selector = sel.at;
          body = body;
          least = only.is;
          shape = own.shape;
          code = found.2;
        }) in
        let en : Entry = record { class = body.class; method = body.method; vars = vars } in
        let many = eqb-true (length args) (length body.method.params) as_many in
        let declared = params_long p body [] body.method.params vars onlyp.is in
        let tests = paid_by vars in
        subst Q (sym step) (record {
          firsts = x.firsts;
          next = active code (o + 1) lv below true;
          arena = a;
          code = found.0;
          words = z ∷ words;
          cost = c;
          left = suc u;
          comes = comes_quiet p i n m K steps (active code s lv zs kp)
              (active code o lv (pos kx ∷ at) kp) a a _ 1 c had few
              (comes p i n m K T Stands code it there r _ a _ 1
              (super_at o j kx found.0 shape row.0 ref lv at words below a z kp at_call
              (shape_at p i n m K T Stands code it there r rows j (record { name = name; shape = shape }) sel.at) takes
              (ap ref_in is_ref.5 ∙ ref_in_word ref (omega (arith, low, small))) row.1 coded) (omega arith));
          within = omega (arith, many, declared, tests, long, pays);
          onward = onward_itself x;
          matches = ma;
          are = record { are = (this_word, aws) };
          entry = record {
            body = body;
            at = found.2;
            class = refl;
            method = refl;
            params = onlyp.is;
            code = found.1;
            there = found.3;
          };
          may = record { long = omega (arith, many, declared); ready = tt };
          result = placed.result;
          waits = back p i n m K T Stands code it there r rows l b here t keeps (entered en (f.this ∷ args)) shape k
              (o + 1) e u own.result runs h f vs x lv below ft
              (with_operands p n it r here q l f vs f.todo x lv zs below placed (record { are = bws }));
        }))))

  -- the bound of the place is that of the frame
  bound_once : (here : Site) (q : Layout) (term : Term) (B B2 : Path) (f : Frame) (x : World) (lv zs : List ℤ) →
      PlacedOn p n it r here q f x lv zs → SuperBound p here term B → Only (SuperBound p (site_of f) term) B2 → B2 ≡ B
  bound_once here q term B B2 f x lv zs placed bound only =
      sym (only.one B (subst (λ (at : Site). SuperBound p at term B)
      (sym (same_site here f placed.class placed.method placed.scope)) bound))

  pub bare_super : (q : Layout) (b : ℕ) (here : Site) (u t : T) (term : Term) (name : Name) (keeps : Bool) (B : Path)
      (kx j : ℕ) (shape : Shape) (k : List Todo) (s e w : ℕ)
      → SuperBound p here term B → slice_get n.classes kx ≡ Some B → At it.instrs s (ins.Load 0)
      → At it.instrs (s + 1) (ins.Cls kx) → At it.instrs (s + 1 + 1) (ins.Callat j)
      → Run it.instrs (dropping keeps shape.result) (s + 1 + 1 + 1) e → MethodOf n name j shape
      → length shape.params ≡ 0 → ((b : Body) → IsBody p B name b → CallsBody p b shape)
      → ((f : Frame) (h : Heap) → Stands u f h → ThisRefers f)
      → LeadsTo p i n m K T Stands code it r here (Super term name 0 keeps) k u t
      → ContOn p i n m K T Stands code it r (with_result keeps shape.result q) b here t k e (20 + w)
      → ContOn p i n m K T Stands code it r q (suc b) here u (todo (length here.vars) (Super term name 0 keeps) ∷ k) s w
  bare_super q b here u t term name keeps B kx j shape k s e w bound classed first second third runs sel none bodies
      refers leads h =
      node_of p i n m K T Stands code it there r q b here u t (Super term name 0 keeps) k s w leads
      (λ f h. ThisRefers f) refers
      (λ f x a lv zs kp ft placed ma this d step.
      let g = active code s lv zs kp in
      let Q : Did → Type 0 = λ d. Follows p i n m blank (Next p i n m K T Stands code it there r here t b) r d x g a
      w in
      let no_way : (d : Did) (w : Why) → d ≡ Faults (Stuck w) → Q d = λ d2 why e.
      stuck p i n m K T Stands code it there r b here t why x g a w d2 e in
      w_only Q no_way (SuperBound p (site_of f) term) _ d step (λ B2 only step.
      let z = placed.this.0 in
      let g2 = active code (s + 1) lv (z ∷ zs) kp in
      let had = quiet_then p i n m K 1 1 g g2 a a _
      (quiet_one p i n m K g g2 a a (moved p i n m K T Stands code it there r s (ins.Load 0) lv zs a kp first
      ∙ some_goes machine.Stuck (slice_get lv 0) z (λ (z : ℤ). machine.next g (z ∷ zs) a) placed.this.1))
      (quiet_one p i n m K g2 (active code (s + 1 + 1) lv (pos kx ∷ (z ∷ zs)) kp) a a
      (moved p i n m K T Stands code it there r (s + 1) (ins.Cls kx) lv (z ∷ zs) a kp second)) in
      calls_there q q b here t name keeps B kx j shape k s (s + 1 + 1) e 3 0 (20 + w) w classed third runs sel bodies h
      (omega arith) f x a lv zs (z ∷ zs) kp ft placed ma this [] f.vals z [] zs refl
      (λ go. ap (λ (l : ℕ). on_args machine.Stuck l [] (z ∷ zs) go) none) placed.this.2 tt placed.operands.are
      2 (omega arith) had d
      (subst (λ (B : Path). calls p B name f.this [] (record f { keeps = keeps }) x.heap d)
      (bound_once here q term B B2 f x lv zs placed bound only) step)))

  -- With arguments, where `this` stands below the first one.
  pub super : (q l : Layout) (b : ℕ) (here : Site) (u t : T) (term : Term) (name : Name) (count : ℕ) (keeps : Bool)
      (B : Path) (kx j : ℕ) (shape : Shape) (k : List Todo) (s e w : ℕ)
      → SuperBound p here term B → slice_get n.classes kx ≡ Some B → TakesAll (suc count) q (of_this ∷ l)
      → At it.instrs s (ins.Cls kx) → At it.instrs (s + 1) (ins.Callat j)
      → Run it.instrs (dropping keeps shape.result) (s + 1 + 1) e → MethodOf n name j shape
      → length shape.params ≡ suc count → ((b : Body) → IsBody p B name b → CallsBody p b shape)
      → ((f : Frame) (h : Heap) → Stands u f h → ThisRefers f)
      → LeadsTo p i n m K T Stands code it r here (Super term name (suc count) keeps) k u t
      → ContOn p i n m K T Stands code it r (with_result keeps shape.result l) b here t k e (18 + w)
      → ContOn p i n m K T Stands code it r q (suc b) here u
      (todo (length here.vars) (Super term name (suc count) keeps) ∷ k) s (3 * count + w)
  super q l b here u t term name count keeps B kx j shape k s e w bound classed tks first second runs sel many bodies
      refers leads h =
      node_of p i n m K T Stands code it there r q b here u t (Super term name (suc count) keeps) k s (3 * count + w)
      leads (λ f h. ThisRefers f) refers
      (λ f x a lv zs kp ft placed ma this d step.
      let g = active code s lv zs kp in
      let Q : Did → Type 0 = λ d. Follows p i n m blank (Next p i n m K T Stands code it there r here t b) r d x g a
      (3 * count + w) in
      let no_way : (d : Did) (w : Why) → d ≡ Faults (Stuck w) → Q d = λ d2 why e.
      stuck p i n m K T Stands code it there r b here t why x g a (3 * count + w) d2 e in
      w_some Q no_way (args_of (suc count) [] f.vals) _ _ d step (λ y is step.
      let aw = arg_words p n x.firsts f.this (suc count) q (of_this ∷ l) tks [] f.vals [] zs y is tt
      placed.operands.are in
      let tk = tucked_there p n x.firsts f.this l y.1 aw.below aw.others in
      w_only Q no_way (SuperBound p (site_of f) term) _ d step (λ B2 only step.
      calls_there q l b here t name keeps B kx j shape k s (s + 1) e 2 (suc count) (18 + w) (3 * count + w) classed
      second runs sel bodies h
      (omega arith) f x a lv zs zs kp ft placed ma this y.0 y.1 tk.word aw.words tk.rest
      (let long = args_long (suc count) [] f.vals y is in omega (arith, long))
      (λ go. ap (λ (l : ℕ). on_args machine.Stuck l [] zs go) many ∙ aw.takes go ∙ ap (go aw.words) tk.is)
      tk.this_word aw.first tk.others 1 (omega arith)
      (quiet_one p i n m K g (active code (s + 1) lv (pos kx ∷ zs) kp) a a
      (moved p i n m K T Stands code it there r s (ins.Cls kx) lv zs a kp first)) d
      (subst (λ (B : Path). calls p B name f.this y.0 (record f { vals = y.1; keeps = keeps }) x.heap d)
      (bound_once here q term B B2 f x lv zs placed bound only) step))))

  -- ---- the first argument goes through a local, so that `this` comes below it

  -- the local has another word
  kept_local : (here : Site) (q : Layout) (f : Frame) (x : World) (lv zs : List ℤ) (c : ℕ) (z : ℤ) →
      ScratchLocal it here c → PlacedOn p n it r here q f x lv zs → PlacedOn p n it r here q f x (slice_set lv c z) zs
  kept_local here q f x lv zs c z own e = record {
    class = e.class;
    method = e.method;
    result = e.result;
    scope = e.scope;
    long = set_long lv c z ∙ e.long;
    this = (e.this.0, set_other lv c z 0 (λ same. own.not_this (sym same)) ∙ e.this.1, e.this.2);
    locals = λ y among. let l = e.locals y among in (
      l.0,
      set_other lv c z y.var.path (own.free y.var
          (subst (λ (vs : List Var). Among vs y.var) e.scope (declared_among f.vars y among))) ∙ l.1,
      l.2,
    );
    operands = e.operands;
  }

  -- STORE, LOAD 0, LOAD: with no charge
  pub tucks : (l : Layout) (b : ℕ) (here : Site) (u : T) (k : List Todo) (s e q w : ℕ) → ScratchLocal it here q
      → Run it.instrs (tuck q) s e → ContOn p i n m K T Stands code it r (of_frame ∷ (of_this ∷ l)) b here u k e w
      → ContOn p i n m K T Stands code it r (of_frame ∷ l) b here u k s (suc (suc (suc w)))
  tucks l b here u k s e q w own runs h = record {
    by = λ f x a lv zs kp ft placed ma st. at_words f x a lv zs kp ft placed ma st;
  }
    where
      at_words : (f : Frame) (x : World) (a lv zs : List ℤ) (kp : Bool) → f.todo ≡ k →
          PlacedOn p n it r here (of_frame ∷ l) (trimmed here f) x lv zs → Matches p i n x a → Stands u f x.heap →
          LocalAt p i n m K r b f.todo f x (active code s lv zs kp) a (suc (suc (suc w)))
      at_words f x a lv zs kp ft placed ma st = on_values f.vals refl zs refl placed.operands.are
        where
          on_values : (vs : List Value) → f.vals ≡ vs → (ws : List ℤ) → zs ≡ ws →
              LaidOut p n x.firsts f.this (of_frame ∷ l) vs ws →
              LocalAt p i n m K r b f.todo f x (active code s lv zs kp) a (suc (suc (suc w)))
          on_values [] ev ws ew laid = absurd laid
          on_values (v ∷ vs) ev [] ew laid = absurd laid
          on_values (v ∷ vs) ev (z ∷ rest) ew laid =
              let low : q < length lv = (let l = placed.long in let r = own.room in omega (arith, l, r)) in
              let lv2 = slice_set lv q z in
              let placed2 = kept_local here (of_frame ∷ l) (trimmed here f) x lv zs q z own placed in
              let tz = placed2.this.0 in
              let g = active code s lv (z ∷ rest) kp in
              let g2 = active code (s + 1) lv2 rest kp in
              let g3 = active code (s + 1 + 1) lv2 (tz ∷ rest) kp in
              let g4 = active code (s + 1 + 1 + 1) lv2 (z ∷ (tz ∷ rest)) kp in
              let mv3 : move i m g3 a ≡ Goes g4 a [] =
              moved p i n m K T Stands code it there r (s + 1 + 1) (ins.Load q) lv2 (tz ∷ rest) a kp runs.1.1.0
              ∙ some_goes machine.Stuck (slice_get lv2 q) z (λ (z : ℤ). machine.next g3 (z ∷ (tz ∷ rest)) a)
              (set_same lv q z (get_or lv q (pos 0)) (slice_get-get_or lv q (pos 0) low)) in
              let mv2 : move i m g2 a ≡ Goes g3 a [] =
              moved p i n m K T Stands code it there r (s + 1) (ins.Load 0) lv2 rest a kp runs.1.0
              ∙ some_goes machine.Stuck (slice_get lv2 0) tz (λ (z : ℤ). machine.next g2 (z ∷ rest) a) placed2.this.1 in
              let on = h.by f x a lv2 (z ∷ (tz ∷ rest)) kp ft
              (with_operands p n it r here (of_frame ∷ l) (of_frame ∷ (of_this ∷ l)) (trimmed here f) f.vals f.todo x
              lv2 zs (z ∷ (tz ∷ rest)) placed2
              (record {
                are = subst (λ (vs : List Value). LaidOut p n x.firsts f.this (of_frame ∷ (of_this ∷ l)) vs
                    (z ∷ (tz ∷ rest))) (sym ev) (laid.0, (placed2.this.2, laid.1));
              })) ma st in
              subst (λ (zs : List ℤ). LocalAt p i n m K r b f.todo f x (active code s lv zs kp) a (suc (suc (suc w))))
              (sym ew)
              (later p i n m K r b f.todo f x g g2 a (suc (suc w))
              (stores p i n m K T Stands code it there r s q lv rest a z kp runs.0 low)
              (later p i n m K r b f.todo f x g2 g3 a (suc w) mv2
              (later p i n m K r b f.todo f x g3 g4 a w mv3
              (subst (λ (t : ℕ). LocalAt p i n m K r b f.todo f x (active code t lv2 (z ∷ (tz ∷ rest)) kp) a w)
              runs.1.1.1 on))))
