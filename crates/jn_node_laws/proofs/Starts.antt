-- How a run begins: an object of Main is made, and `main` is called on it.
use Rattle.std.proofs.Common.{◌≡◌, ℕ, zero, suc, ◌+◌, ◌*◌, ◌<◌, List, [], ◌∷◌, ◌++◌, length, replicate, Option, Some, Bool, true, false, refl, sym, ap, ◌∙◌, subst, arith, nat_eq}
use Rattle.std.specs.Prelude.{ℤ, pos, slice_get, codes}
use Rattle.jn_steps.specs.Steps.{Faults, on_args}
use Rattle.std.proofs.lemmas.Bool.{eqb-true}
use Rattle.jn_base.specs.declared.tree.Name.{Name}
use Rattle.jn_base.specs.declared.tree.Program.{Program}
use Rattle.jn_base.specs.declared.types.Anchor.TheVariants.{Root}
use Rattle.jn_base.specs.Paths.{Path}
use Rattle.jn_code.specs.declared.instr.Instr.{Instr}
use Rattle.jn_code.specs.declared.instr.Instr.TheVariants as ins
use Rattle.jn_code.specs.declared.image.Image.{Image}
use Rattle.jn_code.specs.declared.image.Code.{Code}
use Rattle.jn_code.specs.declared.image.Shape.{Shape}
use Rattle.jn_code.specs.Machine.{ref_word}
use Rattle.jn_code.specs.Machine as machine
use Rattle.jn_sem.specs.declared.outcome.Why.{Why}
use Rattle.jn_sem.specs.Values.{Value, Null, Reference}
use Rattle.jn_sem.specs.Sharing.{IsClass}
use Rattle.jn_sem.specs.Slots.{IsSize}
use Rattle.jn_sem.specs.Acts.{Begin, Open, Todo, todo}
use Rattle.jn_sem.specs.State.{Heap, Frame}
use Rattle.jn_sem.specs.Asks.{Only}
use Rattle.jn_sem.specs.Does.{AtNull, Stuck, Did, Body, Entry, IsBody, IsConstructorBody, IsSpelled, AreParams, AreFresh, makes, constructs, waiting, calls}
use Rattle.jn_sem.specs.Run.{start_frame}
use Rattle.jn_agree.specs.declared.selectors.MethodSel.{MethodSel}
use Rattle.jn_agree.specs.Naming.{Naming, IsWord}
use Rattle.jn_agree.specs.Matches.{World, Matches}
use Rattle.jn_agree.specs.Rows.{RowsAre, HasShape}
use Rattle.jn_agree.specs.Follows.{Knows, blank, quiet, Follows, Local, entered, rate}
use Rattle.jn_agree.specs.Agrees.{StartAgrees, empty_world}
use Rattle.jn_agree.specs.Places.{At, Run, MethodOf, CtorCode, ctor, bare, dropping, StartAt}
use Rattle.jn_match_laws.proofs.RowLaws.{row_at, block_low, place_of}
use Rattle.jn_node_laws.specs.Cont.{with_result, trimmed, Placed, active, ContOn, Cont, LeadsTo}
use Rattle.jn_node_laws.specs.Facts.{FewNumbers, BodiesOnce, SpelledOnce, CallsWell}
use Rattle.jn_node_laws.specs.LawsOfEntries.{start_site, StartTyped}
use Rattle.jn_node_laws.proofs.Classes.{Split, split}
use Rattle.jn_node_laws.proofs.Objects.{with_ctor, without_ctor}
use Rattle.jn_node_laws.proofs.News.{HasGroup, has_group, no_code}
use Rattle.jn_node_laws.proofs.Calls.{paid_by, params_long, shape_at, back, entered_at, called_null}
use Rattle.jn_node_laws.proofs.Ends.{end}
use Rattle.jn_node_laws.proofs.Loops.{idle}
use Rattle.jn_node_laws.proofs.Quiet.{quiet_one}
use Rattle.jn_node_laws.proofs.Ways.{w_only, w_test, w_first, w_object, w_if, top_word}
use Rattle.jn_node_laws.proofs.Nodes.{node, node_of, Next, moved, stuck, faults, comes, with_operands, narrow}
use Rattle.jn_link_laws.proofs.Link.{onward_itself}

-- a shape without parameters and result
none_there : (xs : List ℕ) → length xs ≡ 0 → xs ≡ []
none_there [] e = refl
none_there (x ∷ xs) e = absurd (omega (arith, e))

bare_shape : (s : Shape) → length s.params ≡ 0 → s.result ≡ 0 → s ≡ record { params = []; result = 0 }
bare_shape s e f =
    ap (λ (ks : List ℕ). let t : Shape = record { params = ks; result = s.result } in t) (none_there s.params e)
    ∙ ap (λ (k : ℕ). let t : Shape = record { params = []; result = k } in t) f

-- each body of the image has its selector
pub has_selector : (p : Program) (i : Image) (n : Naming) → RowsAre p i n →
    (V : Path) (m : Name) (b : Body) (s : Shape) →
    IsBody p V m b → HasShape p b s → (j : ℕ) × MethodOf n m j s
has_selector p i n rows V m b s is shape =
    let r = place_of n.methods (record { name = m; shape = s }) (rows.selectors.has_method V m b s is shape) in
    (r.0, record { at = r.1 })

module _ (p : Program) (i : Image) (n : Naming) (m : ℕ) (K : Knows) (T : Type 0) (Stands : T → Frame → Heap → Type 0)
    (code : ℕ) (it : Code) (there : slice_get i.codes code ≡ Some it) (r : Frame) (rows : RowsAre p i n) where
  -- ---- an object of Main is made

  -- what the code of the constructor is
  data Making (b : ℕ) (C : Name) (t : T) (o e w : ℕ) : Type 0 where
    calls_it : (j : ℕ) → MethodOf n C j (record { params = []; result = 0 }) → At it.instrs (o + 1) (ins.Ctor j)
        → Cont p i n m K T Stands code it r b start_site t (todo 0 Open ∷ []) (o + 1 + 1) (15 + w)
        → Making b C t o e w
    has_none : ((body : Body) → IsConstructorBody p (C ∷ []) body → length body.method.params ≡ 0 → ⊥)
        → Cont p i n m K T Stands code it r b start_site t (todo 0 Open ∷ []) (o + 1) (15 + w) → Making b C t o e w

  begun : m < 4294967296 → FewNumbers n → BodiesOnce p → (b : ℕ) (u t : T) (C : Name) (kx s e w : ℕ)
      → Only (IsSpelled p (codes "Main")) C → slice_get n.classes kx ≡ Some (C ∷ []) → At it.instrs s (ins.Cls kx)
      → At it.instrs (s + 1) ins.New
      → ((body : Body) → IsBody p (C ∷ []) C body → HasShape p body (record { params = []; result = 0 }))
      → LeadsTo p i n m K T Stands code it r start_site Begin (todo 0 Open ∷ []) u t
      → Making b C t (s + 1) e w
      → Cont p i n m K T Stands code it r (suc b) start_site u (todo 0 Begin ∷ (todo 0 Open ∷ [])) s w
  begun mm few once b u t C kx s e w only cls at_cls at_new typed leads making =
      node_of p i n m K T Stands code it there r [] b start_site u t Begin (todo 0 Open ∷ []) s w leads
      (λ f h. Unit {0}) (λ f h st. tt)
      (λ f x a lv zs kp ft placed ma fact d step.
      w_only (λ d. Shows f x a lv zs kp d) (no_way f x a lv zs kp) (IsSpelled p (codes "Main")) _ d step
      (λ name found step. of_class f x a lv zs kp ft placed ma d making
      (subst (λ (name : Name). makes p m (name ∷ []) [] true f f.vals x.heap d) (only.one name found.is) step)))
    where
      Shows : (f : Frame) (x : World) (a lv zs : List ℤ) (kp : Bool) → Did → Type 0
      Shows f x a lv zs kp d = Follows p i n m blank (Next p i n m K T Stands code it there r start_site t b) r d x
          (active code s lv zs kp) a w

      no_way : (f : Frame) (x : World) (a lv zs : List ℤ) (kp : Bool) (d : Did) (why : Why) →
          d ≡ Faults (Stuck why) → Shows f x a lv zs kp d
      no_way f x a lv zs kp d why e =
          stuck p i n m K T Stands code it there r b start_site t why x (active code s lv zs kp) a w d e

      of_class : (f : Frame) (x : World) (a lv zs : List ℤ) (kp : Bool) → f.todo ≡ todo 0 Open ∷ [] →
          Placed p n it r start_site f x lv zs → Matches p i n x a → (d : Did) → Making b C t (s + 1) e w →
          makes p m (C ∷ []) [] true f f.vals x.heap d → Shows f x a lv zs kp d
      of_class f x a lv zs kp ft placed ma d mk step =
          let Q : Did → Type 0 = λ d. Shows f x a lv zs kp d in
          w_test Q (no_way f x a lv zs kp) (IsClass p (C ∷ [])) _ d step (λ class step.
          w_only Q (no_way f x a lv zs kp) (IsSize p (C ∷ [])) _ d step (λ size sz step.
          w_only Q (no_way f x a lv zs kp) (AreFresh p (C ∷ [])) _ d step (λ fresh fr step.
          let gr = has_group p i n m K T Stands code it there r rows few C [] kx cls class in
          let had = quiet_one p i n m K (active code s lv zs kp) (active code (s + 1) lv (pos kx ∷ zs) kp) a a
          (moved p i n m K T Stands code it there r s (ins.Cls kx) lv zs a kp at_cls) in
          by_ctor mk gr class fresh fr.is had
          (subst (λ (size : ℕ). constructs p m (C ∷ []) [] true f f.vals x.heap size fresh d)
          (gr.sized size sz.is) step))))
        where
          by_ctor : Making b C t (s + 1) e w →
              (gr : HasGroup p i n m K T Stands code it there r rows C [] kx) → IsClass p (C ∷ []) →
              (fresh : List _) → AreFresh p (C ∷ []) fresh →
              quiet i m 1 (active code s lv zs kp) a ≡ Some (active code (s + 1) lv (pos kx ∷ zs) kp, a) →
              constructs p m (C ∷ []) [] true f f.vals x.heap (suc (length gr.group.slots)) fresh d →
              Shows f x a lv zs kp d
          by_ctor (calls_it j sel at_ctor h) gr class fresh fr had step =
              subst (λ (w : ℕ). Follows p i n m blank (Next p i n m K T Stands code it there r start_site t b) r d x
              (active code s lv zs kp) a w) (let zero_more : 3 * 0 + w ≡ w = omega arith in zero_more)
              (with_ctor p i n m K T Stands code it there r rows mm [] [] b start_site t true (todo 0 Open ∷ []) 1 0 s
              (s + 1) w at_new C [] kx cls gr.row gr.rowed gr.is_row gr.group gr.numb gr.grouped f x a lv zs kp ft
              placed ma [] f.vals [] zs (λ go. refl) tt placed.operands.are refl class fresh fr 1 (omega arith) had j 15
              (s + 1 + 1 + 1) (record { params = []; result = 0 }) (omega arith) at_ctor refl sel refl typed
              (no_code p i n m K T Stands code it there r rows once C [] j (record { params = []; result = 0 }) gr.row
              class gr.is_row sel)
              (narrow p i n m K T Stands code it there r b start_site t (todo 0 Open ∷ []) (s + 1 + 1 + 1) (15 + w) h) d
              step)
          by_ctor (has_none none h) gr class fresh fr had step =
              without_ctor p i n m K T Stands code it there r rows mm [] [] b start_site t true (todo 0 Open ∷ []) 1 0 s
              (s + 1) w at_new C [] kx cls gr.row gr.rowed gr.is_row gr.group gr.numb gr.grouped f x a lv zs kp ft
              placed ma [] f.vals [] zs (λ go. refl) tt placed.operands.are refl class fresh fr 1 (omega arith) had 15
              (s + 1 + 1) (omega arith) refl refl refl none
              (narrow p i n m K T Stands code it there r b start_site t (todo 0 Open ∷ []) (s + 1 + 1)
              (15 + w) h) d step

  -- ---- `main` is called

  opened : (b : ℕ) (u t : T) (name : Name) (j : ℕ) (shape : Shape) (s e w : ℕ) → Only (IsSpelled p (codes "main")) name
      → At it.instrs s (ins.Call j) → Run it.instrs (dropping false shape.result) (s + 1) e → MethodOf n name j shape
      → length shape.params ≡ 0 → ((f : Frame) (h : Heap) → Stands u f h → CallsWell p name 0 shape h f.vals)
      → LeadsTo p i n m K T Stands code it r start_site Open [] u t
      → Cont p i n m K T Stands code it r b start_site t [] e (20 + w)
      → Cont p i n m K T Stands code it r (suc b) start_site u (todo 0 Open ∷ []) s w
  opened b u t name j shape s e w only at runs sel none facts leads h =
      node p i n m K T Stands code it there r [] b start_site u t Open [] s w leads
      (CallsWell p name 0 shape) facts
      (λ f x a lv zs kp ft placed ma fact d step.
      let g = active code s lv zs kp in
      let Q : Did → Type 0 = λ d. Follows p i n m blank
      (Next p i n m K T Stands code it there r start_site t b) r d x g a w in
      let no_way : (d : Did) (w : Why) → d ≡ Faults (Stuck w) → Q d = λ d2 why e.
      stuck p i n m K T Stands code it there r b start_site t why x g a w d2 e in
      w_first Q no_way f.vals _ d step (λ v us vus step.
      let rw = top_word p n x.firsts f.this [] [] refl v us f.vals zs vus placed.operands.are in
      let takes : (go : List ℤ → List ℤ → machine.Did) → on_args machine.Stuck (length shape.params) [] zs go ≡ go []
      (rw.word ∷ rw.rest) = λ go. ap (λ (k : ℕ). on_args machine.Stuck k [] zs go) none ∙ ap (go []) rw.is in
      w_object Q no_way v _ d step (λ null e.
      let zero_word : IsWord p n x.firsts Null rw.word = subst
      (λ (v : Value). IsWord p n x.firsts v rw.word) null rw.first in
      faults p i n m K T Stands code it there r b start_site t AtNull machine.Null x g a w d e refl
      (comes p i n m K T Stands code it there r g a (Faults machine.Null) (rate + w)
      (called_null p i n m K T Stands code it there r rows s j shape lv zs [] rw.rest a rw.word kp at shaped takes
      zero_word.is) (omega arith))) (λ o V ref step.
      w_only Q no_way (IsSpelled p (codes "main")) _ d step (λ spelled also step.
      w_only Q no_way (IsBody p V name) _ d
      (subst (λ (name : Name). calls p V name v [] (waiting false f us) x.heap d) (only.one spelled also.is) step)
      (λ body lone step.
      w_if Q no_way (nat_eq 0 (length body.method.params)) _ d step (λ as_many step.
      w_only Q no_way (AreParams p body) _ d step (λ vars onlyp step.
      let word : IsWord p n x.firsts (Reference o V) rw.word = subst
      (λ (v : Value). IsWord p n x.firsts v rw.word) ref rw.first in
      let is_ref = word.is in
      let low = block_low i n x.heap.objects x.firsts 0 (length a) o is_ref.1 ma.blocks is_ref.3 in
      let small = ma.small in
      let cell : is_ref.1.cell < 4294967296 = omega (arith, low.3, small) in
      let row = row_at p i n rows V is_ref.0 is_ref.2 in
      let found = rows.bodies V name body is_ref.0 is_ref.2 lone.is in
      let own = fact [] us o V (ap (λ (vs : List Value). let o : Option (List Value × List Value) = Some ([], vs) in o)
      (vus ∙ ap (λ (v : Value). v ∷ us) ref)) body lone.is in
      let coded = row.2.has_method j found.0 (record {
        sel = sel_is;
        selector = sel.at;
        body = body;
        least = lone.is;
        shape = own.shape;
        code = found.2;
      }) in
      let en : Entry = record { class = body.class; method = body.method; vars = vars } in
      let many = eqb-true 0 (length body.method.params) as_many in
      let declared = params_long p body [] body.method.params vars onlyp.is in
      let tests = paid_by vars in
      subst Q (sym step) (record {
        firsts = x.firsts;
        next = active code (s + 1) lv rw.rest true;
        arena = a;
        code = found.0;
        words = ref_word is_ref.0 is_ref.1.cell ∷ [];
        cost = 1;
        left = suc (20 + w);
        comes = comes p i n m K T Stands code it there r g a _ 1
            (entered_at p i n m K T Stands code it there r rows s j is_ref.0 is_ref.1.cell found.0 shape row.0 lv zs []
            rw.rest a kp at cell shaped
            (λ go. takes go ∙ ap (λ (z : ℤ). go [] (z ∷ rw.rest)) is_ref.5) row.1 coded) (omega arith);
        within = omega (arith, many, declared, tests);
        onward = onward_itself x;
        matches = ma;
        are = record { are = (subst (λ (z : ℤ). IsWord p n x.firsts v z) is_ref.5 rw.first, tt) };
        entry = record {
          body = body;
          at = found.2;
          class = refl;
          method = refl;
          params = onlyp.is;
          code = found.1;
          there = found.3;
        };
        may = record { long = omega (arith, many, declared); ready = tt };
        result = placed.result;
        waits = back p i n m K T Stands code it there r rows [] b start_site t false (entered en (v ∷ [])) shape []
            (s + 1) e (20 + w) own.result runs (part shape.result) f us x lv rw.rest ft
            (with_operands p n it r start_site [] [] f us f.todo x lv zs rw.rest placed (record { are = rw.others }));
      }))))))))
    where
      sel_is : MethodSel
      sel_is = record { name = name; shape = shape }

      shaped : slice_get i.methods j ≡ Some shape
      shaped = shape_at p i n m K T Stands code it there r rows j sel_is sel.at

      part : (k : ℕ) → ContOn p i n m K T Stands code it r (with_result false k []) b start_site t [] e (20 + w)
      part zero = h
      part (suc k) = h

module _ (p : Program) (i : Image) (n : Naming) (m : ℕ) (K : Knows) (T : Type 0) (Stands : T → Frame → Heap → Type 0)
    (code : ℕ) (it : Code) (there : slice_get i.codes code ≡ Some it) (rows : RowsAre p i n) where
  -- The start code goes with the frame that starts the program.
  pub started : m < 4294967296 → FewNumbers n → BodiesOnce p → SpelledOnce p → (start : StartAt p n it) →
      i.start ≡ code → StartTyped p i n m K T Stands code it start → StartAgrees p i n m K
  started mm few once spelled start same typed = record {
    code = it;
    there = ap (λ (k : ℕ). slice_get i.codes k) same ∙ there;
    follows = λ b. subst (λ (k : ℕ). Local p i n m K start_frame b start_frame empty_world (machine.fresh k it [])
        [] 32)
        (sym same)
        ((begins b).by start_frame empty_world [] ([] ++ replicate (length it.locals) (pos 0)) [] true refl placed
        matches typed.stands);
  }
    where
      two : Split it.instrs start.constructor
          (ins.Call start.selector ∷ (dropping false start.shape.result ++ ins.Ret ∷ [])) (0 + 1 + 1) (length it.instrs)
      two = split it.instrs start.constructor
          (ins.Call start.selector ∷ (dropping false start.shape.result ++ ins.Ret ∷ [])) (0 + 1 + 1)
          (length it.instrs) start.instrs.1.1

      three : Split it.instrs (dropping false start.shape.result) (ins.Ret ∷ []) (two.mid + 1) (length it.instrs)
      three = split it.instrs (dropping false start.shape.result) (ins.Ret ∷ []) (two.mid + 1) (length it.instrs)
          two.back.1

      main_class : Only (IsSpelled p (codes "Main")) start.class
      main_class = record { is = start.is_class; one = λ b k. spelled (codes "Main") b start.class k start.is_class }

      main : Only (IsSpelled p (codes "main")) start.method
      main = record { is = start.is_method; one = λ b k. spelled (codes "main") b start.method k start.is_method }

      Go : ℕ → T → List Todo → ℕ → ℕ → Type 0
      Go b t k s w = Cont p i n m K T Stands code it start_frame b start_site t k s w

      ends : (b : ℕ) → Go b typed.at_end [] three.mid 67
      ends b = end p i n m K T Stands code it there start_frame b start_site typed.at_end three.mid 67 three.back.0
          (omega arith) typed.gives

      opens : (b : ℕ) → Go b typed.at_main (todo 0 Open ∷ []) two.mid 47
      opens zero = idle p i n m K T Stands code it there start_frame start_site typed.at_main (todo 0 Open) []
          two.mid 47
      opens (suc b) = opened p i n m K T Stands code it there start_frame rows b typed.at_main typed.at_end start.method
          start.selector start.shape two.mid three.mid 47 main two.back.0 three.front start.is_selector
          (ap (λ (ks : List ℕ). length ks) start.no_params) typed.main typed.opens (ends b)

      making : (b : ℕ) (xs : List Instr) → CtorCode n (record {
        anchor = Root;
        exact = [];
        names = start.class ∷ [];
      }) 0 xs
          → Run it.instrs xs (0 + 1 + 1) two.mid →
          Making p i n m K T Stands code it there start_frame rows b start.class typed.at_main (0 + 1) two.mid 32
      making b xs (ctor C P s shape names sel none void is) runs =
          let same_name : C ≡ start.class = head C start.class P (sym names) in
          let at = subst (λ (xs : List Instr). Run it.instrs xs (0 + 1 + 1) two.mid) is runs in
          calls_it s
          (subst (λ (shape : Shape). MethodOf n start.class s shape) (bare_shape shape none void)
          (subst (λ (C : Name). MethodOf n C s shape) same_name sel)) at.0
          (subst (λ (k : ℕ). Go b typed.at_main (todo 0 Open ∷ []) k 47) at.1 (opens b))
        where
          head : (C D : Name) (P : Path) → C ∷ P ≡ D ∷ [] → C ≡ D
          head C D P e = cc
      making b xs (bare none never is) runs =
          has_none (λ body ctor params. nothing body ctor params)
          (subst (λ (k : ℕ). Go b typed.at_main (todo 0 Open ∷ []) k 47)
          (subst (λ (xs : List Instr). Run it.instrs xs (0 + 1 + 1) two.mid) is runs) (opens b))
        where
          nothing : (body : Body) → IsConstructorBody p (start.class ∷ []) body → length body.method.params ≡ 0 → ⊥
          nothing body is params =
              let s = has_selector p i n rows (start.class ∷ []) start.class body (record {
                params = [];
                result = 0;
              }) is
              (typed.constructor body is) in
              never start.class [] s.0 (record { params = []; result = 0 }) refl s.1 refl refl

      begins : (b : ℕ) → Go b typed.at_start (todo 0 Begin ∷ (todo 0 Open ∷ [])) 0 32
      begins zero = idle p i n m K T Stands code it there start_frame start_site typed.at_start (todo 0 Begin)
          (todo 0 Open ∷ []) 0 32
      begins (suc b) = begun p i n m K T Stands code it there start_frame rows mm few once b typed.at_start
          typed.at_main start.class start.number 0 two.mid 32 main_class start.at_class start.instrs.0
          start.instrs.1.0 typed.constructor typed.begins (making b start.constructor start.is_constructor two.front)

      no_objects : (o : ℕ) (y : _) → slice_get empty_world.heap.objects o ≡ Some y → ⊥
      no_objects zero y e = cc
      no_objects (suc o) y e = cc

      matches : Matches p i n empty_world []
      matches = record {
        blocks = refl;
        objects = λ o y c e. absurd (no_objects o y e);
        used = refl;
        small = omega arith;
      }

      placed : Placed p n it start_frame start_site (trimmed start_site start_frame) empty_world
          ([] ++ replicate (length it.locals) (pos 0)) []
      placed = record {
        class = refl;
        method = refl;
        result = refl;
        scope = refl;
        long = ap (λ (ks : List ℕ). length (replicate (length ks) (pos 0))) start.locals
            ∙ ap (λ (ks : List ℕ). length (ks ++ 3 ∷ [])) (sym start.params)
            ∙ ap (λ (ks : List ℕ). length (it.params ++ ks)) (sym start.locals);
        this = (
          pos 0,
          ap (λ (ks : List ℕ). slice_get (replicate (length ks) (pos 0)) 0) start.locals,
          record { is = refl },
        );
        locals = λ y a. elim a [ ];
        operands = record { are = tt };
      }
