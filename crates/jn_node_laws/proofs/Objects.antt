-- A new object, once its class is had: with a constructor, and without one.
use Rattle.std.proofs.Common.{◌≡◌, ℕ, suc, ◌+◌, ◌*◌, ◌<◌, ◌≤◌, List, [], ◌∷◌, ◌++◌, length, Option, Some, None, Bool, true, false, refl, sym, ap, ◌∙◌, subst, arith, nat_eq}
use Rattle.std.specs.Prelude.{ℤ, pos, slice_get, nat_le, if◌then◌else◌}
use Rattle.std.proofs.lemmas.Bool.{leb-true, eqb-true}
use Rattle.std.proofs.lemmas.List.{length-replicate}
use Rattle.jn_steps.specs.Steps.{Goes, Enters, Faults, on_some, on_args}
use Rattle.jn_base.specs.declared.tree.Name.{Name}
use Rattle.jn_base.specs.declared.tree.Program.{Program}
use Rattle.jn_base.specs.declared.names.Var.{Var}
use Rattle.jn_base.specs.Paths.{Path}
use Rattle.jn_code.specs.declared.instr.Instr.TheVariants as ins
use Rattle.jn_code.specs.declared.image.Image.{Image}
use Rattle.jn_code.specs.declared.image.Code.{Code}
use Rattle.jn_code.specs.declared.image.Group.{Group}
use Rattle.jn_code.specs.declared.image.Shape.{Shape}
use Rattle.jn_code.specs.declared.image.ClassRow.{ClassRow}
use Rattle.jn_code.specs.Rows.{numbered}
use Rattle.jn_code.specs.Machine.{Ref, move, obey, ref_word, ref_in, code_in, waits, object_cells, construct, next}
use Rattle.jn_code.specs.Machine as machine
use Rattle.jn_code.proofs.Words.{ref_in_word, get_right}
use Rattle.jn_sem.specs.Values.{Value, Reference}
use Rattle.jn_sem.specs.Terms.{Site}
use Rattle.jn_sem.specs.Sharing.{IsClass}
use Rattle.jn_sem.specs.Acts.{Todo}
use Rattle.jn_sem.specs.State.{Frame, Heap, Object, Stored, with_object}
use Rattle.jn_sem.specs.declared.outcome.Why.{Why}
use Rattle.jn_sem.specs.Asks.{Only, OnIf, OnFirst, It, found, not_found}
use Rattle.jn_sem.specs.Does.{Arena, Stuck, Body, IsBody, IsConstructorBody, AreParams, AreFresh, Did, waiting, kept, ends, on_cells, constructs}
use Rattle.jn_sem.specs.Does as does
use Rattle.jn_sem.specs.declared.outcome.Why.TheVariants as why
use Rattle.jn_sem.specs.Run.{given}
use Rattle.jn_sem.proofs.HeapLaws.{heap_laws}
use Rattle.jn_agree.specs.declared.selectors.MethodSel.{MethodSel}
use Rattle.jn_agree.specs.Naming.{Naming, First, IsWord, WordsAre}
use Rattle.jn_agree.specs.Matches.{World, Matches, Onward, RowOf}
use Rattle.jn_agree.specs.Rows.{RowIs, RowsAre, HasShape, HasEntry}
use Rattle.jn_agree.specs.Follows.{at, Knows, blank, quiet, Comes, entered, Waits, Follows, Local, rate}
use Rattle.jn_node_laws.specs.Cont.{Layout, LaidOut, with_value, PlacedOn, active, ContOn}
use Rattle.jn_agree.specs.Places.{At, Run, MethodOf, dropping}
use Rattle.jn_node_laws.proofs.Gets.{some_goes}
use Rattle.jn_node_laws.proofs.Quiet.{later, spare, quiet_then, quiet_one, comes_quiet, last_quiet}
use Rattle.jn_node_laws.proofs.Ways.{w_only, w_if}
use Rattle.jn_match_laws.proofs.Makes.{made, blocks_long}
use Rattle.jn_node_laws.proofs.Calls.{shape_at as shape_at_by, params_long, paid_by}
use Rattle.jn_sem.proofs.SharedLaws.{sharing_laws}
use Rattle.jn_node_laws.proofs.Nodes.{Next, stuck, moved, goes_on, faults, comes, with_operands, placed_on, words_on, laid_on}

module _ (p : Program) (i : Image) (n : Naming) (m : ℕ) (K : Knows) (T : Type 0) (Stands : T → Frame → Heap → Type 0)
    (code : ℕ) (it : Code) (there : slice_get i.codes code ≡ Some it) (r : Frame) where
  -- the instruction NEW, where the cells suffice and where they don't
  new_goes : (s kx : ℕ) (row : ClassRow) (group : Group) (lv zs a : List ℤ) (keeps : Bool) (b : Bool) →
      At it.instrs s ins.New → slice_get i.classes kx ≡ Some row → numbered row.group ≡ Some row.group →
      slice_get i.groups row.group ≡ Some group → nat_le (length a + length (object_cells row.group group)) m ≡ b
      → move i m (active code s lv (pos kx ∷ zs) keeps) a ≡
      (if b then Goes (active code (s + 1) lv (ref_word kx (length a) ∷ zs) keeps)
      (a ++ object_cells row.group group) [] else Faults machine.Arena)
  new_goes s kx row group lv zs a keeps b at rowed num grouped room =
      let g = active code s lv (pos kx ∷ zs) keeps in
      let of_cells : List ℤ → machine.Did = λ cells. if nat_le (length a + length cells) m then next g
      (ref_word kx (length a) ∷ zs) (a ++ cells) else Faults machine.Arena in
      let of_group : ℕ → Group → machine.Did = λ num group. of_cells (object_cells num group) in
      let of_num : ℕ → machine.Did = λ num. on_some machine.Stuck (slice_get i.groups num) (of_group num) in
      let of_row : ClassRow → machine.Did = λ row. on_some machine.Null (numbered row.group) of_num in
      moved p i n m K T Stands code it there r s ins.New lv (pos kx ∷ zs) a keeps at
      ∙ some_goes machine.Stuck (slice_get i.classes kx) row of_row rowed
      ∙ some_goes machine.Null (numbered row.group) row.group of_num num
      ∙ some_goes machine.Stuck (slice_get i.groups row.group) group (of_group row.group) grouped
      ∙ ap (λ (b : Bool). let d : machine.Did = if b then Goes
      (active code (s + 1) lv (ref_word kx (length a) ∷ zs) keeps)
      (a ++ object_cells row.group group) [] else Faults machine.Arena in d) room

  -- CTOR enters the constructor, and keeps the reference below
  ctor_enters : (s j kx cell kc : ℕ) (shape : Shape) (row : ClassRow) (lv zs words below a : List ℤ) (keeps : Bool) →
      At it.instrs s (ins.Ctor j) → cell < 4294967296 → slice_get i.methods j ≡ Some shape
      → ((go : List ℤ → List ℤ → machine.Did) → on_args machine.Stuck (length shape.params) [] zs go ≡ go words below)
      → slice_get i.classes kx ≡ Some row → code_in row j ≡ Some kc
      → move i m (active code s lv (ref_word kx cell ∷ zs) keeps) a ≡ Enters kc (ref_word kx cell ∷ words)
      (active code (s + 1) lv (ref_word kx cell ∷ below) false) a
  ctor_enters s j kx cell kc shape row lv zs words below a keeps at low shaped args rowed coded =
      let z = ref_word kx cell in
      let g = active code s lv (z ∷ zs) keeps in
      let of_row : List ℤ → List ℤ → ClassRow → machine.Did = λ args below row. construct
      (code_in row j) z args g below a in
      let of_ref : List ℤ → List ℤ → Ref → machine.Did = λ args below r. on_some machine.Stuck
      (slice_get i.classes r.view) (of_row args below) in
      let of_args : List ℤ → List ℤ → machine.Did = λ args below. on_some machine.Null (ref_in z) (of_ref args below) in
      let of_shape : Shape → machine.Did = λ sh. on_args machine.Stuck (length sh.params) [] zs of_args in
      moved p i n m K T Stands code it there r s (ins.Ctor j) lv (z ∷ zs) a keeps at
      ∙ some_goes machine.Stuck (slice_get i.methods j) shape of_shape shaped
      ∙ args of_args
      ∙ some_goes machine.Null (ref_in z) (record { view = kx; cell = cell }) (of_ref words below)
      (ref_in_word (record { view = kx; cell = cell }) low)
      ∙ some_goes machine.Stuck (slice_get i.classes kx) row (of_row words below) rowed
      ∙ ap (λ (o : Option ℕ). construct o z words g below a) coded

  -- CTOR where the class has no constructor
  ctor_passes : (s j kx cell : ℕ) (shape : Shape) (row : ClassRow) (lv zs words below a : List ℤ) (keeps : Bool) →
      At it.instrs s (ins.Ctor j) → cell < 4294967296 → slice_get i.methods j ≡ Some shape
      → ((go : List ℤ → List ℤ → machine.Did) → on_args machine.Stuck (length shape.params) [] zs go ≡ go words below)
      → slice_get i.classes kx ≡ Some row → code_in row j ≡ None
      → move i m (active code s lv (ref_word kx cell ∷ zs) keeps) a ≡ Goes
      (active code (s + 1) lv (ref_word kx cell ∷ below) keeps) a []
  ctor_passes s j kx cell shape row lv zs words below a keeps at low shaped args rowed coded =
      let z = ref_word kx cell in
      let g = active code s lv (z ∷ zs) keeps in
      let of_row : List ℤ → List ℤ → ClassRow → machine.Did = λ args below row. construct
      (code_in row j) z args g below a in
      let of_ref : List ℤ → List ℤ → Ref → machine.Did = λ args below r. on_some machine.Stuck
      (slice_get i.classes r.view) (of_row args below) in
      let of_args : List ℤ → List ℤ → machine.Did = λ args below. on_some machine.Null (ref_in z) (of_ref args below) in
      let of_shape : Shape → machine.Did = λ sh. on_args machine.Stuck (length sh.params) [] zs of_args in
      moved p i n m K T Stands code it there r s (ins.Ctor j) lv (z ∷ zs) a keeps at
      ∙ some_goes machine.Stuck (slice_get i.methods j) shape of_shape shaped
      ∙ args of_args
      ∙ some_goes machine.Null (ref_in z) (record { view = kx; cell = cell }) (of_ref words below)
      (ref_in_word (record { view = kx; cell = cell }) low)
      ∙ some_goes machine.Stuck (slice_get i.classes kx) row (of_row words below) rowed
      ∙ ap (λ (o : Option ℕ). construct o z words g below a) coded

  -- ---- what stands behind: the reference is the value, or is dropped

  -- The constructor has given back what it does, which comes nowhere.
  behind : (l : Layout) (b : ℕ) (here : Site) (t0 : T) (keeps : Bool) (q : Frame) (k : List Todo) (s t w : ℕ) →
      Run it.instrs (dropping keeps 3) s t →
      ContOn p i n m K T Stands code it r (with_value keeps l) b here t0 k t w
      → (f : Frame) (us : List Value) (v : Value) (x : World) (lv zs : List ℤ) (z : ℤ) → f.todo ≡ k →
      PlacedOn p n it r here l (record f { vals = us }) x lv zs → IsWord p n x.firsts v z
      → Waits p i n m blank (Next p i n m K T Stands code it there r here t0 b) q
      (waiting false f (kept keeps v us)) x (active code s lv (z ∷ zs) false) (suc w)
  behind l b here t0 keeps q k s t w runs h f us v x lv zs z ft placed vz y a rv ru on ma hb gb = at_result rv ru
    where
      L : Frame → World → machine.Frame → List ℤ → ℕ → Type 0
      L = Next p i n m K T Stands code it there r here t0 b

      went : (kp : Bool) (vs : List Value) (zs2 : List ℤ) → keeps ≡ kp →
          LaidOut p n x.firsts f.this (with_value kp l) vs zs2 → L
          (record f { vals = vs; keeps = false }) y (active code t lv zs2 false) a w
      went kp vs zs2 ek ws =
          let e = placed_on p n it r here (with_value keeps l) (record f { vals = vs; todo = f.todo }) x y lv zs2 on
          (with_operands p n it r here l (with_value keeps l) (record f { vals = us }) vs f.todo x lv zs zs2 placed
          (record {
            are = subst (λ (kp : Bool). LaidOut p n x.firsts f.this (with_value kp l) vs zs2) (sym ek) ws;
          })) in
          goes_on p i n m K T Stands code it there r (with_value keeps l) b here t0 k t w h
          (record f { vals = vs; keeps = false }) y a lv zs2 false ft
          (record {
            class = e.class;
            method = e.method;
            result = e.result;
            scope = e.scope;
            long = e.long;
            this = e.this;
            locals = e.locals;
            operands = record { are = e.operands.are };
          }) ma

      goes : (kp : Bool) → keeps ≡ kp → Run it.instrs (dropping kp 3) s t → L
          (record f { vals = kept kp v us; keeps = false }) y (active code s lv (z ∷ zs) false) a (suc w)
      goes true ek e = λ st.
          spare p i n m K r b f.todo (record f { vals = v ∷ us; keeps = false }) y
          (active code s lv (z ∷ zs) false) a w (suc w) (omega arith)
          (subst (λ (t : ℕ). Local p i n m K r b (record f { vals = v ∷ us; keeps = false }) y
          (active code t lv (z ∷ zs) false) a w) e (went true (v ∷ us) (z ∷ zs) ek (vz, placed.operands.are) st))
      goes false ek e = λ st.
          later p i n m K r b f.todo (record f { vals = us; keeps = false }) y (active code s lv (z ∷ zs) false)
          (active code t lv zs false) a w
          (moved p i n m K T Stands code it there r s ins.Pop lv (z ∷ zs) a false e.0 ∙ ap
          (λ (t : ℕ). let d : machine.Did = Goes (active code t lv zs false) a [] in d) (sym e.1))
          (went false us zs ek placed.operands.are st)

      at_result : (rv : Option Value) (ru : Option ℤ) → L (given rv (waiting false f (kept keeps v us))) y
          (machine.given ru (active code s lv (z ∷ zs) false)) a (suc w)
      at_result None None = goes keeps refl runs
      at_result None (Some u) = goes keeps refl runs
      at_result (Some q) None = goes keeps refl runs
      at_result (Some q) (Some u) = goes keeps refl runs

  module _ (rows : RowsAre p i n) where
    -- The class is had, and with it its row and its group, of which a new object has so many cells.
    module _ (mm : m < 4294967296) (q l : Layout) (b : ℕ) (here : Site) (t0 : T) (keeps : Bool) (k : List Todo)
        (c num s o w : ℕ) (at_new : At it.instrs o ins.New) (C : Name) (P : Path) (kx : ℕ)
        (cls : slice_get n.classes kx ≡ Some (C ∷ P)) (row : ClassRow) (rowed : slice_get i.classes kx ≡ Some row)
        (is_row : RowIs p n (C ∷ P) row) (group : Group) (numb : numbered row.group ≡ Some row.group)
        (grouped : slice_get i.groups row.group ≡ Some group) (f : Frame) (x : World) (a lv zs : List ℤ) (kp : Bool)
        (ft : f.todo ≡ k) (placed : PlacedOn p n it r here q f x lv zs) (ma : Matches p i n x a)
        (args vs : List Value) (words below : List ℤ)
        (takes : (go : List ℤ → List ℤ → machine.Did) → on_args machine.Stuck num [] zs go ≡ go words below)
        (aws : WordsAre p n x.firsts args words) (bws : LaidOut p n x.firsts f.this l vs below)
        (long : length args ≡ 0 + num) (class : IsClass p (C ∷ P)) (fresh : List Stored) (fr : AreFresh p (C ∷ P) fresh)
        (steps : ℕ) (few : steps ≤ c)
        (had : quiet i m steps (active code s lv zs kp) a ≡ Some (active code o lv (pos kx ∷ zs) kp, a)) where
      abbrev size : ℕ
      size = suc (length group.slots)

      abbrev cells : List ℤ
      cells = object_cells row.group group

      cells_long : length cells ≡ size
      cells_long = ap suc (length-replicate (length group.slots) (pos 0))

      abbrev new_first : First
      new_first = record { cell = length a; made = C ∷ P }

      abbrev y : Object
      y = record { made = C ∷ P; stored = fresh }

      abbrev z : World
      z = record { firsts = x.firsts ++ new_first ∷ []; heap = with_object x.heap size y }

      abbrev row_of : RowOf i n (C ∷ P) kx row
      row_of = record { class = cls; there = rowed }

      on : Onward x z
      on = record { more = new_first ∷ []; firsts = refl; heap = (heap_laws.heaps p).object x.heap size y }

      same_room : (bb : Bool) → nat_le (x.heap.used + size) m ≡ bb → nat_le (length a + length cells) m ≡ bb
      same_room bb e = ap (λ (u : ℕ). nat_le (u + length cells) m) ma.used ∙ ap
          (λ (l : ℕ). nat_le (x.heap.used + l) m) cells_long ∙ e

      abbrev object : Value
      object = Reference (length x.heap.objects) (C ∷ P)

      abbrev ref : ℤ
      ref = ref_word kx (length a)

      object_word : IsWord p n z.firsts object ref
      object_word = record {
        is = (
          kx,
          new_first,
          cls,
          ap (λ (k : ℕ). slice_get (x.firsts ++ new_first ∷ []) k) last_place ∙
              get_right x.firsts (new_first ∷ []) 0,
          (sharing_laws p).itself (C ∷ P) class,
          refl,
        );
      }
        where
          last_place : length x.heap.objects ≡ length x.firsts + 0
          last_place = let l = blocks_long i n x.heap.objects x.firsts 0 (length a) ma.blocks in omega (arith, l)

      abbrev Shown : ℕ → Did → Type 0
      Shown w d = Follows p i n m blank (Next p i n m K T Stands code it there r here t0 b) r d x
          (active code s lv zs kp) a w

      no_room : (w : ℕ) (d : Did) → c + 1 ≤ rate + w → nat_le (x.heap.used + size) m ≡ false → d ≡ Faults Arena →
          Shown w d
      no_room w d le room step =
          faults p i n m K T Stands code it there r b here t0 Arena machine.Arena x (active code s lv zs kp) a
          w d step refl
          (comes_quiet p i n m K steps (active code s lv zs kp) (active code o lv (pos kx ∷ zs) kp) a a _ 1
          (rate + w) had (omega (arith, few, le))
          (comes p i n m K T Stands code it there r (active code o lv (pos kx ∷ zs) kp) a _ 1
          (new_goes o kx row group lv zs a kp false at_new rowed numb grouped (same_room false room)) (omega arith)))

      -- the object is made
      made_now : nat_le (x.heap.used + size) m ≡ true →
          quiet i m (steps + 1) (active code s lv zs kp) a ≡ Some
          (active code (o + 1) lv (ref ∷ zs) kp, a ++ cells)
      made_now room =
          quiet_then p i n m K steps 1 (active code s lv zs kp) (active code o lv (pos kx ∷ zs) kp) a a _ had
          (quiet_one p i n m K (active code o lv (pos kx ∷ zs) kp) (active code (o + 1) lv (ref ∷ zs) kp) a (a ++ cells)
          (new_goes o kx row group lv zs a kp true at_new rowed numb grouped (same_room true room)))

      matches_now : nat_le (x.heap.used + size) m ≡ true → Matches p i n z (a ++ cells)
      matches_now room =
          let fits = leb-true (x.heap.used + size) m room in
          let used = ma.used in
          made p i n rows x a (C ∷ P) kx row group fresh ma
          ((sharing_laws p).itself (C ∷ P) class) row_of grouped fr (omega (arith, fits, used, mm))

      placed_now : PlacedOn p n it r here l (record f { vals = vs }) z lv below
      placed_now = placed_on p n it r here l (record f { vals = vs }) x z lv below on
          (with_operands p n it r here q l f vs f.todo x lv zs below placed (record { are = bws }))

      -- there is no constructor, and the instructions have come behind it: the reference is the value, or is dropped
      passes : (w v t e : ℕ) (d : Did) (there_now : ℕ) →
          quiet i m there_now (active code s lv zs kp) a ≡ Some (active code t lv (ref ∷ below) kp, a ++ cells) →
          1 ≤ there_now → there_now + (1 + v) ≤ rate + w → Run it.instrs (dropping keeps 3) t e →
          ContOn p i n m K T Stands code it r (with_value keeps l) b here t0 k e v →
          nat_le (x.heap.used + size) m ≡ true → d ≡ Goes (record f { vals = kept keeps object vs }) z.heap [] →
          Shown w d
      passes w v t e d there_now gone some le runs h room step = at_kept keeps refl runs step
        where
          goes : (kp2 : Bool) → keeps ≡ kp2 → (us : List Value) (zs2 : List ℤ) →
              LaidOut p n z.firsts f.this (with_value kp2 l) us zs2 →
              Next p i n m K T Stands code it there r here t0 b (record f { vals = us }) z
              (active code e lv zs2 kp) (a ++ cells) v
          goes kp2 ek us zs2 ws =
              goes_on p i n m K T Stands code it there r (with_value keeps l) b here t0 k e v h
              (record f { vals = us }) z (a ++ cells) lv zs2 kp ft
              (with_operands p n it r here l (with_value keeps l) (record f { vals = vs }) us f.todo z lv below zs2
              placed_now
              (record {
                are = subst (λ (kp : Bool). LaidOut p n z.firsts f.this (with_value kp l) us zs2) (sym ek) ws;
              })) (matches_now room)

          shown : (us : List Value) (zs2 : List ℤ) (cost : ℕ) → Comes i m (active code s lv zs kp) a
              (Goes (active code e lv zs2 kp) (a ++ cells) []) cost → cost + v ≤ rate + w →
              Next p i n m K T Stands code it there r here t0 b (record f { vals = us }) z
              (active code e lv zs2 kp) (a ++ cells) v → d ≡ Goes (record f { vals = us }) z.heap [] → Shown w d
          shown us zs2 cost comes le goes_there step =
              subst (λ (d : Did). Shown w d) (sym step) (record {
                firsts = z.firsts;
                next = active code e lv zs2 kp;
                arena = a ++ cells;
                cost = cost;
                left = v;
                comes = comes;
                within = le;
                onward = on;
                matches = matches_now room;
                result = placed.result;
                goes_on = goes_there;
              })

          at_kept : (kp2 : Bool) → keeps ≡ kp2 → Run it.instrs (dropping kp2 3) t e →
              d ≡ Goes (record f { vals = kept kp2 object vs }) z.heap [] → Shown w d
          at_kept true ek e2 step =
              shown (object ∷ vs) (ref ∷ below) there_now
              (subst (λ (e : ℕ). Comes i m (active code s lv zs kp) a
              (Goes (active code e lv (ref ∷ below) kp) (a ++ cells) []) there_now) (sym e2)
              (last_quiet p i n m K there_now (active code s lv zs kp) (active code t lv (ref ∷ below) kp) a
              (a ++ cells) some gone)) (omega (arith, le))
              (goes true ek (object ∷ vs) (ref ∷ below) (object_word, laid_on p n f.this l x z vs below on bws)) step
          at_kept false ek e2 step =
              shown vs below (there_now + 1)
              (comes_quiet p i n m K there_now (active code s lv zs kp) (active code t lv (ref ∷ below) kp) a
              (a ++ cells) _ 1 (there_now + 1) gone (omega arith)
              (comes p i n m K T Stands code it there r (active code t lv (ref ∷ below) kp) (a ++ cells) _ 1
              (moved p i n m K T Stands code it there r t ins.Pop lv (ref ∷ below) (a ++ cells) kp e2.0 ∙ ap
              (λ (t : ℕ). let d : machine.Did = Goes (active code t lv below kp) (a ++ cells) [] in d) (sym e2.1))
              (omega arith))) (omega (arith, le))
              (goes false ek vs below (laid_on p n f.this l x z vs below on bws)) step

      -- ---- with CTOR

      module _ (j v e : ℕ) (shape : Shape) (fits : c + v ≤ 21) (at_ctor : At it.instrs (o + 1) (ins.Ctor j))
          (runs : Run it.instrs (dropping keeps 3) (o + 1 + 1) e) (sel : MethodOf n C j shape)
          (many : length shape.params ≡ num) (typed : (body : Body) → IsBody p (C ∷ P) C body → HasShape p body shape)
          (no_code : ((a : Body) → Only (IsConstructorBody p (C ∷ P)) a → ⊥) → code_in row j ≡ None)
          (h : ContOn p i n m K T Stands code it r (with_value keeps l) b here t0 k e (v + w)) where
        abbrev sel_is : MethodSel
        sel_is = record { name = C; shape = shape }

        shaped : slice_get i.methods j ≡ Some shape
        shaped = shape_at_by p i n m K T Stands code it there r rows j sel_is sel.at

        ctor_takes : (go : List ℤ → List ℤ → machine.Did) → on_args machine.Stuck (length shape.params) [] zs go ≡
            go words below
        ctor_takes go = ap (λ (k : ℕ). on_args machine.Stuck k [] zs go) many ∙ takes go

        enters : (d : Did) (body : Body) (vars : List Var) → IsBody p (C ∷ P) C body → AreParams p body vars →
            length args ≡ length body.method.params → nat_le (x.heap.used + size) m ≡ true → d ≡ Enters
            (record { class = body.class; method = body.method; vars = vars }) (object ∷ args)
            (waiting false f (kept keeps object vs)) z.heap → Shown (3 * num + w) d
        enters d body vars is params same room step =
            let as_many = params_long p body [] body.method.params vars params in
            let counted : length (object ∷ args) ≡ suc (length vars) = omega (arith, as_many, same) in
            let tests = paid_by vars in
            let found = rows.bodies (C ∷ P) C body kx cls is in
            let entry : HasEntry p n (C ∷ P) j found.0 =
            record {
              sel = sel_is;
              selector = sel.at;
              body = body;
              least = is;
              shape = typed body is;
              code = found.2;
            } in
            let small = ma.small in
            subst (λ (d : Did). Shown (3 * num + w) d) (sym step) (record {
              firsts = z.firsts;
              next = active code (o + 1 + 1) lv (ref ∷ below) false;
              arena = a ++ cells;
              code = found.0;
              words = ref ∷ words;
              cost = c + 2;
              left = suc (v + w);
              comes = comes_quiet p i n m K (steps + 1) (active code s lv zs kp)
                  (active code (o + 1) lv (ref ∷ zs) kp) a (a ++ cells) _ 1 (c + 2) (made_now room) (omega (arith, few))
                  (comes p i n m K T Stands code it there r
                  (active code (o + 1) lv (ref ∷ zs) kp) (a ++ cells) _ 1
                  (ctor_enters (o + 1) j kx (length a) found.0 shape row lv zs words below (a ++ cells) kp at_ctor small
                  shaped ctor_takes rowed (is_row.has_method j found.0 entry)) (omega arith));
              within = omega (arith, long, counted, tests, fits);
              onward = on;
              matches = matches_now room;
              are = record { are = (object_word, words_on p n x z args words on aws) };
              entry = record {
                body = body;
                at = found.2;
                class = refl;
                method = refl;
                params = params;
                code = found.1;
                there = found.3;
              };
              may = record { long = counted; ready = tt };
              result = placed.result;
              waits = behind l b here t0 keeps (entered
                  (record { class = body.class; method = body.method; vars = vars }) (object ∷ args)) k
                  (o + 1 + 1) e (v + w) runs h f vs object z lv below ref ft placed_now object_word;
            })

        at_room : (d : Did) (bb : Bool) (body : Body) (vars : List Var) → IsBody p (C ∷ P) C body →
            AreParams p body vars →
            length args ≡ length body.method.params → nat_le (x.heap.used + size) m ≡ bb → OnIf bb (ends Arena)
            (It (Enters (record { class = body.class; method = body.method; vars = vars }) (object ∷ args)
            (waiting false f (kept keeps object vs)) z.heap)) d → Shown (3 * num + w) d
        at_room d true body vars is params same room step = enters d body vars is params same room step
        at_room d false body vars is params same room step = no_room (3 * num + w) d (omega (arith, fits)) room step

        -- where the class has no constructor, CTOR passes
        passed : (d : Did) (bb : Bool) → ((a : Body) → Only (IsConstructorBody p (C ∷ P)) a → ⊥) →
            nat_le (x.heap.used + size) m ≡ bb → OnIf bb (ends Arena)
            (It (Goes (record f { vals = kept keeps object vs }) z.heap [])) d → Shown (3 * num + w) d
        passed d false none room step = no_room (3 * num + w) d (omega (arith, fits)) room step
        passed d true none room step =
            let small = ma.small in
            passes (3 * num + w) (v + w) (o + 1 + 1) e d (steps + 1 + 1)
            (quiet_then p i n m K (steps + 1) 1 (active code s lv zs kp) (active code (o + 1) lv (ref ∷ zs) kp) a
            (a ++ cells) _ (made_now room)
            (quiet_one p i n m K (active code (o + 1) lv (ref ∷ zs) kp)
            (active code (o + 1 + 1) lv (ref ∷ below) kp) (a ++ cells) (a ++ cells)
            (ctor_passes (o + 1) j kx (length a) shape row lv zs words below (a ++ cells) kp at_ctor small shaped
            ctor_takes rowed (no_code none))))
            (omega arith) (omega (arith, few, fits)) runs h room step

        pub with_ctor : (d : Did) → constructs p m (C ∷ P) args keeps f vs x.heap size fresh d → Shown (3 * num + w) d
        with_ctor d (not_found none step) = at_args args step
          where
            at_args : (args : List Value) → OnFirst args
                (on_cells m x.heap size (does.goes f (kept keeps object vs) z.heap)) (λ a rest. does.missing) d →
                Shown (3 * num + w) d
            at_args [] step = passed d (nat_le (x.heap.used + size) m) none refl step
            at_args (a2 ∷ rest) step = stuck p i n m K T Stands code it there r b here t0 why.Missing x
                (active code s lv zs kp) a (3 * num + w) d step
        with_ctor d (found body only step) =
            let Q : Did → Type 0 = λ d. Shown (3 * num + w) d in
            let no_way : (d : Did) (w : Why) → d ≡ Faults (Stuck w) → Q d = λ d2 why e.
            stuck p i n m K T Stands code it there r b here t0 why x (active code s lv zs kp) a
            (3 * num + w) d2 e in
            w_if Q no_way (nat_eq (length args) (length body.method.params)) _ d step (λ same step.
            w_only Q no_way (AreParams p body) _ d step
            (λ vars onlyp step. at_room d (nat_le (x.heap.used + size) m) body vars only.is onlyp.is
            (eqb-true (length args) (length body.method.params) same) refl step))

      -- ---- without CTOR, and without arguments

      module _ (v e : ℕ) (fits : c + v ≤ 30) (zero_args : num ≡ 0) (same : below ≡ zs)
          (runs : Run it.instrs (dropping keeps 3) (o + 1) e)
          (no_body : (body : Body) → IsConstructorBody p (C ∷ P) body → length body.method.params ≡ 0 → ⊥)
          (h : ContOn p i n m K T Stands code it r (with_value keeps l) b here t0 k e (v + w)) where
        bare_passed : (d : Did) (bb : Bool) → nat_le (x.heap.used + size) m ≡ bb → OnIf bb (ends Arena)
            (It (Goes (record f { vals = kept keeps object vs }) z.heap [])) d → Shown w d
        bare_passed d false room step = no_room w d (omega (arith, fits)) room step
        bare_passed d true room step =
            passes w (v + w) (o + 1) e d (steps + 1)
            (made_now room ∙ ap (λ (zs : List ℤ). let g : Option (machine.Frame × List ℤ) = Some
            (active code (o + 1) lv (ref ∷ zs) kp, a ++ cells) in g) (sym same))
            (omega arith) (omega (arith, few, fits)) runs h room step

        pub without_ctor : (d : Did) → constructs p m (C ∷ P) args keeps f vs x.heap size fresh d → Shown w d
        without_ctor d (not_found none step) = at_args args step
          where
            at_args : (args : List Value) → OnFirst args
                (on_cells m x.heap size (does.goes f (kept keeps object vs) z.heap)) (λ a rest. does.missing) d →
                Shown w d
            at_args [] step = bare_passed d (nat_le (x.heap.used + size) m) refl step
            at_args (a2 ∷ rest) step = stuck p i n m K T Stands code it there r b here t0 why.Missing x
                (active code s lv zs kp) a w d step
        without_ctor d (found body only step) =
            let Q : Did → Type 0 = λ d. Shown w d in
            let no_way : (d : Did) (w : Why) → d ≡ Faults (Stuck w) → Q d = λ d2 why e.
            stuck p i n m K T Stands code it there r b here t0 why x (active code s lv zs kp) a w d2 e in
            w_if Q no_way (nat_eq (length args) (length body.method.params)) _ d step (λ same step.
            let as_many = eqb-true (length args) (length body.method.params) same in
            absurd (no_body body only.is (omega (arith, as_many, long, zero_args))))
