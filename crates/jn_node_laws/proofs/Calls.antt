-- Calls: the body at the receiver's view is entered, and its result is kept or dropped.
use Rattle.std.proofs.Common.{◌≡◌, ℕ, suc, ◌+◌, ◌*◌, ◌<◌, ◌≤◌, ◌++◌, List, [], ◌∷◌, length, Option, Some, None, Bool, true, false, refl, sym, ap, ◌∙◌, subst, arith, nat_eq}
use Rattle.std.specs.Prelude.{ℤ, pos, slice_get}
use Rattle.std.specs.Prelude.{if◌then◌else◌}
use Rattle.std.specs.List.{filter}
use Rattle.std.specs.Option.{option_map}
use Rattle.std.proofs.lemmas.Bool.{eqb-true}
use Rattle.std.proofs.lemmas.List.{length-append}
use Rattle.jn_base.specs.declared.tree.Param.{Param}
use Rattle.std.proofs.lemmas.Option.{slice_get-map}
use Rattle.jn_steps.specs.Steps.{Goes, Enters, Faults, on_some, on_one, on_args}
use Rattle.jn_base.specs.declared.tree.Name.{Name}
use Rattle.jn_base.specs.declared.tree.TypeTerm.{TypeTerm}
use Rattle.jn_base.specs.declared.tree.Program.{Program}
use Rattle.jn_base.specs.declared.names.Var.{Var}
use Rattle.jn_code.specs.declared.instr.Instr.TheVariants as ins
use Rattle.jn_code.specs.declared.image.Image.{Image}
use Rattle.jn_code.specs.declared.image.Code.{Code}
use Rattle.jn_code.specs.declared.image.Shape.{Shape}
use Rattle.jn_code.specs.declared.image.ClassRow.{ClassRow}
use Rattle.jn_code.specs.Machine.{Halt, Ref, move, obey, ref_word, ref_in, code_in, waits}
use Rattle.jn_code.specs.Machine as machine
use Rattle.jn_code.proofs.Words.{ref_in_word}
use Rattle.jn_sem.specs.declared.outcome.Why.{Why}
use Rattle.jn_sem.specs.Values.{Value, Null, Reference}
use Rattle.jn_sem.specs.Terms.{Site}
use Rattle.jn_sem.specs.Acts.{Call, Todo, todo}
use Rattle.jn_sem.specs.State.{Heap, Frame}
use Rattle.jn_sem.specs.Does.{AtNull, Stuck, Entry, Body, IsBody, AreParams, AreParamsAfter, Did, args_of, kept, var}
use Rattle.jn_sem.specs.Run.{given}
use Rattle.jn_agree.specs.declared.selectors.MethodSel.{MethodSel}
use Rattle.jn_agree.specs.Naming.{Naming, IsWord, AreWords}
use Rattle.jn_agree.specs.Matches.{World}
use Rattle.jn_agree.specs.Rows.{RowsAre}
use Rattle.jn_node_laws.specs.Facts.{ResultGoes, CallsWell}
use Rattle.jn_agree.specs.Follows.{HandsBack, Knows, blank, Going, Waits, Follows, Local, entered, is_tested, paid, rate}
use Rattle.jn_node_laws.specs.Cont.{Layout, LaidOut, Takes, TakesAll, with_result, PlacedOn, active, ContOn, LeadsTo}
use Rattle.jn_agree.specs.Places.{At, Run, MethodOf, dropping}
use Rattle.jn_link_laws.proofs.Link.{onward_itself}
use Rattle.jn_match_laws.proofs.RowLaws.{row_at, block_low}
use Rattle.jn_node_laws.proofs.Ways.{w_only, w_some, w_first, w_if, w_object, top_word, arg_words, args_long}
use Rattle.jn_node_laws.proofs.Gets.{some_goes}
use Rattle.jn_node_laws.proofs.Quiet.{later, spare}
use Rattle.jn_node_laws.proofs.Nodes.{node, Next, moved, goes_on, stuck, faults, comes, with_operands, placed_on, laid_on}

-- a test for each parameter at most
pub paid_by : (vars : List Var) → paid vars ≤ 8 + 3 * length vars
paid_by vars = let l = filtered vars in omega (arith, l)
  where
    filtered : (vars : List Var) → length (filter is_tested vars) ≤ length vars
    filtered [] = omega arith
    filtered (x ∷ xs) = at_test (is_tested x) (filtered xs)
      where
        at_test : (t : Bool) → length (filter is_tested xs) ≤ length xs → length
            (if t then x ∷ filter is_tested xs else filter is_tested xs) ≤ suc (length xs)
        at_test true l = omega (arith, l)
        at_test false l = omega (arith, l)

-- the parameters are as many as the method declares
pub params_long : (p : Program) (b : Body) (before : List Var) (xs : List Param) (all : List Var) →
    AreParamsAfter p b before xs all → length all ≡ length before + length xs
params_long p b before [] all e = let l : length all ≡ length before = ap (λ (vs : List Var). length vs) e in omega
    (arith, l)
params_long p b before (x ∷ xs) all e =
    let y : Var = var x.name.name (suc (length before)) x.fixed e.0 in
    let l = params_long p b (before ++ y ∷ []) xs all e.2 in
    let k = length-append before (y ∷ []) in
    omega (arith, l, k)

module _ (p : Program) (i : Image) (n : Naming) (m : ℕ) (K : Knows) (T : Type 0) (Stands : T → Frame → Heap → Type 0)
    (code : ℕ) (it : Code) (there : slice_get i.codes code ≡ Some it) (r : Frame) (rows : RowsAre p i n) where
  pub shape_at : (s : ℕ) (sel : MethodSel) → slice_get n.methods s ≡ Some sel → slice_get i.methods s ≡ Some sel.shape
  shape_at s sel e = ap (λ (ks : List Shape). slice_get ks s) (sym rows.shapes) ∙ slice_get-map
      (λ (x : MethodSel). x.shape) n.methods s ∙ ap (option_map (λ (x : MethodSel). x.shape)) e

  -- what the frame does once the result is there
  pub back : (l : Layout) (b : ℕ) (here : Site) (t : T) (keeps : Bool) (q : Frame) (shape : Shape) (k : List Todo)
      (s e w : ℕ) → ResultGoes q.method.result shape.result → Run it.instrs (dropping keeps shape.result) s e →
      ContOn p i n m K T Stands code it r (with_result keeps shape.result l) b here t k e w
      → (f : Frame) (vs : List Value) (x : World) (lv zs : List ℤ) → f.todo ≡ k → PlacedOn p n it r here l
      (record f { vals = vs }) x lv zs
      → Waits p i n m blank (Next p i n m K T Stands code it there r here t b) q
      (record f { vals = vs; keeps = keeps }) x (active code s lv zs true) (suc w)
  back l b here t keeps q shape k s e w res runs h f vs x lv zs ft placed y a v u on ma hb gb =
      at_result q.method.result v u res hb
    where
      L : Going
      L = Next p i n m K T Stands code it there r here t b

      after : Layout
      after = with_result keeps shape.result l

      placed_y : (us : List Value) (us2 : List ℤ) → LaidOut p n y.firsts f.this after us us2 → PlacedOn p n it r here
          after (record f { vals = us; keeps = keeps }) y lv us2
      placed_y us us2 ws =
          let e = placed_on p n it r here l (record f { vals = vs }) x y lv zs on placed in
          record {
            class = e.class;
            method = e.method;
            result = e.result;
            scope = e.scope;
            long = e.long;
            this = e.this;
            locals =
                e.locals;
            operands = record { are = ws };
          }

      went : (us : List Value) (us2 : List ℤ) → LaidOut p n y.firsts f.this after us us2 → L
          (record f { vals = us; keeps = keeps }) y (active code e lv us2 true) a w
      went us us2 ws = goes_on p i n m K T Stands code it there r after b here t k e w h
          (record f { vals = us; keeps = keeps }) y a lv us2 true ft (placed_y us us2 ws) ma

      kept_words : LaidOut p n y.firsts f.this l vs zs
      kept_words = laid_on p n f.this l x y vs zs on placed.operands.are

      -- as the layout is, by what is kept and the result's kind
      as_laid : (kp : Bool) (kind : ℕ) → keeps ≡ kp → shape.result ≡ kind → (us : List Value) (us2 : List ℤ) →
          LaidOut p n y.firsts f.this (with_result kp kind l) us us2 → LaidOut p n y.firsts f.this after us us2
      as_laid kp kind ek er us us2 ws =
          let same : after ≡ with_result kp kind l = ap (λ (kp : Bool). with_result kp shape.result l) ek
          ∙ ap (λ (kind : ℕ). with_result kp kind l) er in
          subst (λ (z : Layout). LaidOut p n y.firsts f.this z us us2) (sym same) ws

      more : (us : List Value) (us2 : List ℤ) → e ≡ s → LaidOut p n y.firsts f.this after us us2 → L
          (record f { vals = us; keeps = keeps }) y (active code s lv us2 true) a (suc w)
      more us us2 same ws st =
          spare p i n m K r b f.todo (record f { vals = us; keeps = keeps }) y (active code s lv us2 true) a w (suc w)
          (omega arith)
          (subst (λ (t : ℕ). Local p i n m K r b (record f { vals = us; keeps = keeps }) y
          (active code t lv us2 true) a w) same (went us us2 ws st))

      -- a result comes, and is kept or dropped
      at_value : (kp : Bool) (kind : ℕ) → keeps ≡ kp → shape.result ≡ suc kind →
          Run it.instrs (dropping kp (suc kind)) s e → (v : Value)
          (u : ℤ) → IsWord p n y.firsts v u → L (record f { vals = kept kp v vs; keeps = keeps }) y
          (active code s lv (u ∷ zs) true) a (suc w)
      at_value true kind ek er runs v u is = more (v ∷ vs) (u ∷ zs) runs
          (as_laid true (suc kind) ek er (v ∷ vs) (u ∷ zs) (is, kept_words))
      at_value false kind ek er runs v u is = λ st.
          later p i n m K r b f.todo (record f { vals = vs; keeps = keeps }) y (active code s lv (u ∷ zs) true)
          (active code e lv zs true) a w
          (moved p i n m K T Stands code it there r s ins.Pop lv (u ∷ zs) a true runs.0 ∙ ap
          (λ (t : ℕ). let d : machine.Did = Goes (active code t lv zs true) a [] in d) (sym runs.1))
          (went vs zs (as_laid false (suc kind) ek er vs zs kept_words) st)

      none_at : (kp : Bool) → Run it.instrs (dropping kp 0) s e → e ≡ s
      none_at true k = k
      none_at false k = k

      at_result : (res : Option TypeTerm) (v : Option Value) (u : Option ℤ) → ResultGoes res shape.result →
          HandsBack p n y res v u → L (given v (record f { vals = vs; keeps = keeps })) y
          (machine.given u (active code s lv zs true)) a (suc w)
      at_result None None None k hb = more vs zs
          (none_at keeps (subst (λ (k : ℕ). Run it.instrs (dropping keeps k) s e) k runs))
          (as_laid keeps 0 refl k vs zs kept_words)
      at_result (Some ty) (Some v) (Some u) k hb = at_value keeps k.0 refl k.1
          (subst (λ (k : ℕ). Run it.instrs (dropping keeps k) s e) k.1 runs) v u hb
      at_result None None (Some u) k hb = absurd hb
      at_result None (Some v) u k hb = absurd hb
      at_result (Some ty) None u k hb = absurd hb
      at_result (Some ty) (Some v) None k hb = absurd hb

  -- the instruction, up to the body that is entered
  pub entered_at : (here : ℕ) (j kv cell kc : ℕ) (shape : Shape) (row : ClassRow) (lv zs words below a : List ℤ)
      (keeps : Bool) → At it.instrs here (ins.Call j) → cell < 4294967296 → slice_get i.methods j ≡ Some shape
      → ((go : List ℤ → List ℤ → machine.Did) → on_args machine.Stuck (length shape.params) [] zs go ≡ go words
      (ref_word kv cell ∷ below)) → slice_get i.classes kv ≡ Some row → code_in row j ≡ Some kc
      → move i m (active code here lv zs keeps) a ≡ Enters kc (ref_word kv cell ∷ words)
      (active code (here + 1) lv below true) a
  entered_at here j kv cell kc shape row lv zs words below a keeps at low shaped args rowed coded =
      let g = active code here lv zs keeps in
      let z = ref_word kv cell in
      let of_code : ℕ → machine.Did = λ b. Enters b (z ∷ words) (waits true g below) a in
      let of_row : ClassRow → machine.Did = λ row. on_some machine.Null (code_in row j) of_code in
      let of_ref : Ref → machine.Did = λ r. on_some machine.Stuck (slice_get i.classes r.view) of_row in
      let of_args : List ℤ → List ℤ → machine.Did = λ args below. on_one machine.Stuck below
      (λ z vs. on_some machine.Null (ref_in z)
      (λ r. on_some machine.Stuck (slice_get i.classes r.view)
      (λ (row : ClassRow). on_some machine.Null (code_in row j) (λ b. Enters b (z ∷ args) (waits true g vs) a)))) in
      let of_shape : Shape → machine.Did = λ sh. on_args machine.Stuck (length sh.params) [] zs of_args in
      moved p i n m K T Stands code it there r here (ins.Call j) lv zs a keeps at
      ∙ some_goes machine.Stuck (slice_get i.methods j) shape of_shape shaped
      ∙ args of_args
      ∙ some_goes machine.Null (ref_in z) (record { view = kv; cell = cell }) of_ref
      (ref_in_word (record { view = kv; cell = cell }) low)
      ∙ some_goes machine.Stuck (slice_get i.classes kv) row of_row rowed
      ∙ some_goes machine.Null (code_in row j) kc of_code coded

  pub called_null : (here : ℕ) (j : ℕ) (shape : Shape) (lv zs words below a : List ℤ) (z : ℤ) (keeps : Bool) →
      At it.instrs here (ins.Call j) → slice_get i.methods j ≡ Some shape
      → ((go : List ℤ → List ℤ → machine.Did) → on_args machine.Stuck (length shape.params) [] zs go ≡ go words
      (z ∷ below)) → z ≡ pos 0 → move i m (active code here lv zs keeps) a ≡ Faults machine.Null
  called_null here j shape lv zs words below a z keeps at shaped args null =
      let g = active code here lv zs keeps in
      let of_args : List ℤ → List ℤ → machine.Did = λ args below. on_one machine.Stuck below
      (λ z vs. on_some machine.Null (ref_in z)
      (λ r. on_some machine.Stuck (slice_get i.classes r.view)
      (λ (row : ClassRow). on_some machine.Null (code_in row j) (λ b. Enters b (z ∷ args) (waits true g vs) a)))) in
      let of_shape : Shape → machine.Did = λ sh. on_args machine.Stuck (length sh.params) [] zs of_args in
      moved p i n m K T Stands code it there r here (ins.Call j) lv zs a keeps at
      ∙ some_goes machine.Stuck (slice_get i.methods j) shape of_shape shaped
      ∙ args of_args
      ∙ ap (λ z. of_args words (z ∷ below)) null

  -- THE NODE: the selector is one of the name, and of the shape of the body that is called
  pub call : (q0 q l : Layout) (b : ℕ) (here : Site) (u t : T) (name : Name) (num : ℕ) (keeps : Bool) (j : ℕ)
      (shape : Shape)
      (k : List Todo) (s e w : ℕ)
      → At it.instrs s (ins.Call j) → Run it.instrs (dropping keeps shape.result) (s + 1) e → MethodOf n name j shape
      → length shape.params ≡ num → TakesAll num q0 q → Takes q l
      → ((f : Frame) (h : Heap) → Stands u f h → CallsWell p name num shape h f.vals) →
      LeadsTo p i n m K T Stands code it r here (Call name num keeps) k u t
      → ContOn p i n m K T Stands code it r (with_result keeps shape.result l) b here t k e (20 + w)
      → ContOn p i n m K T Stands code it r q0 (suc b) here u (todo (length here.vars) (Call name num keeps) ∷ k) s
      (3 * num + w)
  call q0 q l b here u t name num keeps j shape k s e w at runs sel many tks tk facts leads h =
      node p i n m K T Stands code it there r q0 b here u t (Call name num keeps) k s (3 * num + w) leads
      (CallsWell p name num shape) facts
      (λ f x a lv zs kp ft placed ma fact d step.
      let g = active code s lv zs kp in
      let Q : Did → Type 0 = λ d. Follows p i n m blank (Next p i n m K T Stands code it there r here t b) r d x g a
      (3 * num + w) in
      let no_way : (d : Did) (w : Why) → d ≡ Faults (Stuck w) → Q d = λ d2 why e.
      stuck p i n m K T Stands code it there r b here t why x g a (3 * num + w) d2 e in
      w_some Q no_way (args_of num [] f.vals) _ _ d step (λ y is step.
      let aw = arg_words p n x.firsts f.this num q0 q tks [] f.vals [] zs y is tt placed.operands.are in
      w_first Q no_way y.1 _ d step (λ v us vus step.
      let rw = top_word p n x.firsts f.this q l tk v us y.1 aw.below vus aw.others in
      w_object Q no_way v _ d step (λ null e.
      let zero_word : IsWord p n x.firsts Null rw.word = subst
      (λ (v : Value). IsWord p n x.firsts v rw.word) null rw.first in
      faults p i n m K T Stands code it there r b here t AtNull machine.Null x g a (3 * num + w) d e refl
      (comes p i n m K T Stands code it there r g a (Faults machine.Null) (rate + (3 * num + w))
      (called_null s j shape lv zs aw.words rw.rest a rw.word kp at shaped
      (taken zs aw.words aw.below rw.word rw.rest rw.is aw.takes) zero_word.is) (omega arith))) (λ o V ref step.
      w_only Q no_way (IsBody p V name) _ d step (λ body only step.
      w_if Q no_way (nat_eq (length y.0) (length body.method.params)) _ d step (λ same step.
      w_only Q no_way (AreParams p body) _ d step (λ vars onlyp step.
      let word : IsWord p n x.firsts (Reference o V) rw.word = subst
      (λ (v : Value). IsWord p n x.firsts v rw.word) ref rw.first in
      let is_ref = word.is in
      let low = block_low i n x.heap.objects x.firsts 0 (length a) o is_ref.1 ma.blocks is_ref.3 in
      let small = ma.small in
      let cell : is_ref.1.cell < 4294967296 = omega (arith, low.3, small) in
      let row = row_at p i n rows V is_ref.0 is_ref.2 in
      let found = rows.bodies V name body is_ref.0 is_ref.2 only.is in
      let calls = fact y.0 us o V (is ∙ ap
      (λ (z : List Value). let o : Option (List Value × List Value) = Some (y.0, z) in o)
      (vus ∙ ap (λ (z : Value). z ∷ us) ref)) body only.is in
      let coded = row.2.has_method j found.0
      (record {
        sel = sel_is;
        selector = sel.at;
        body = body;
        least = only.is;
        shape = calls.shape;
        code =
            found.2;
      }) in
      let en : Entry = record { class = body.class; method = body.method; vars = vars } in
      let mv = entered_at s j is_ref.0 is_ref.1.cell found.0 shape row.0 lv zs aw.words rw.rest a kp at cell shaped
      (taken zs aw.words aw.below (ref_word is_ref.0 is_ref.1.cell) rw.rest
      (rw.is ∙ ap (λ (z : ℤ). z ∷ rw.rest) is_ref.5) aw.takes) row.1 coded in
      let long = args_long num [] f.vals y is in
      let y0 : AreWords p n x.firsts (v ∷ y.0) (ref_word is_ref.0 is_ref.1.cell ∷ aw.words) =
      record { are = (subst (λ (z : ℤ). IsWord p n x.firsts v z) is_ref.5 rw.first, aw.first) } in
      let as_many = eqb-true (length y.0) (length body.method.params) same in
      let declared = params_long p body [] body.method.params vars onlyp.is in
      let counted : length (v ∷ y.0) ≡ suc (length vars) = omega (arith, as_many, declared) in
      let tests = paid_by vars in
      subst Q (sym step) (record {
        firsts = x.firsts;
        next = active code (s + 1) lv rw.rest true;
        arena = a;
        code = found.0;
        words = ref_word is_ref.0 is_ref.1.cell ∷ aw.words;
        cost = 1;
        left = suc (20 + w);
        comes = comes p i n m K T Stands code it there r g a
            (Enters found.0 (ref_word is_ref.0 is_ref.1.cell ∷ aw.words) (active code (s + 1) lv rw.rest true) a) 1 mv
            (omega arith);
        within = omega (arith, long, counted, tests);
        onward = onward_itself x;
        matches = ma;
        are = y0;
        entry = record {
          body = body;
          at = found.2;
          class = refl;
          method = refl;
          params = onlyp.is;
          code = found.1;
          there = found.3;
        };
        may = record { long = counted; ready = tt };
        result = placed.result;
        waits = back l b here t keeps (entered en (v ∷ y.0)) shape k (s + 1) e
            (20 + w) calls.result runs h f us x lv rw.rest ft
            (with_operands p n it r here q0 l f us f.todo x lv zs rw.rest placed (record { are = rw.others }));
      }))))))))
    where
      sel_is : MethodSel
      sel_is = record { name = name; shape = shape }

      shaped : slice_get i.methods j ≡ Some shape
      shaped = shape_at j sel_is sel.at

      taken : (zs words below : List ℤ) (z : ℤ) (rest : List ℤ) → below ≡ z ∷ rest →
          ((go : List ℤ → List ℤ → machine.Did) → on_args machine.Stuck num [] zs go ≡ go words below) →
          (go : List ℤ → List ℤ → machine.Did) → on_args machine.Stuck (length shape.params) [] zs go ≡ go words
          (z ∷ rest)
      taken zs words below z rest e f go = ap (λ (k : ℕ). on_args machine.Stuck k [] zs go) many ∙ f go ∙ ap
          (go words) e
