-- Writing a field.
use Rattle.std.proofs.Common.{◌≡◌, ℕ, suc, ◌+◌, ◌<◌, List, [], ◌∷◌, length, Some, Bool, refl, sym, ap, ◌∙◌, subst, arith}
use Rattle.std.specs.Prelude.{ℤ, slice_get, slice_set, nat_lt, if◌then◌else◌}
use Rattle.std.proofs.lemmas.Bool.{lt-ltb}
use Rattle.std.proofs.lemmas.List.{append-nil}
use Rattle.jn_steps.specs.Steps.{Goes, Faults, on_some}
use Rattle.jn_base.specs.declared.tree.Name.{Name}
use Rattle.jn_base.specs.declared.tree.Program.{Program}
use Rattle.jn_base.specs.declared.types.Ty.{Ty}
use Rattle.jn_base.specs.Paths.{Path}
use Rattle.jn_code.specs.declared.instr.Instr.TheVariants as ins
use Rattle.jn_code.specs.declared.image.Image.{Image}
use Rattle.jn_code.specs.declared.image.Code.{Code}
use Rattle.jn_code.specs.declared.image.ClassRow.{ClassRow}
use Rattle.jn_code.specs.Machine.{Ref, move, obey, ref_word, ref_in, slot_in, next}
use Rattle.jn_code.specs.Machine as machine
use Rattle.jn_code.proofs.Words.{ref_in_word}
use Rattle.jn_sem.specs.declared.outcome.Why.{Why}
use Rattle.jn_sem.specs.declared.outcome.Why.TheVariants as why
use Rattle.jn_sem.specs.Values.{Value, Null, Reference}
use Rattle.jn_sem.specs.Terms.{Site}
use Rattle.jn_sem.specs.Slots.{Slot, IsSlot, FieldType, this_viewed}
use Rattle.jn_sem.specs.Sharing.{Related}
use Rattle.jn_sem.specs.Asks.{OnTest, holds, fails}
use Rattle.jn_sem.specs.Acts.{Put, Todo, todo}
use Rattle.jn_sem.specs.State.{Frame, Heap, Object, with_slot, IsIn}
use Rattle.jn_sem.specs.Does.{AtNull, Stuck, Did, Does, Way, foreign}
use Rattle.jn_sem.proofs.HeapLaws.{heap_laws}
use Rattle.jn_agree.specs.declared.selectors.FieldSel.{FieldSel}
use Rattle.jn_agree.specs.Naming.{Naming, IsWord, WordsAre}
use Rattle.jn_agree.specs.Matches.{World, Matches, Onward, SlotNumber}
use Rattle.jn_agree.specs.Rows.{RowsAre, FieldKind, HasFieldEntry}
use Rattle.jn_node_laws.specs.Facts.{WritesWell}
use Rattle.jn_agree.specs.Follows.{Knows, blank, Follows, rate}
use Rattle.jn_node_laws.specs.Cont.{Placed, active, Cont, LeadsTo}
use Rattle.jn_agree.specs.Places.{At, FieldOf}
use Rattle.jn_match_laws.proofs.RowLaws.{row_at, block_low, below, got_same}
use Rattle.jn_node_laws.proofs.Gets.{some_goes}
use Rattle.jn_match_laws.proofs.Stores.{stored, block_at}
use Rattle.jn_node_laws.proofs.Ways.{w_first, w_only, w_some, w_object, one_word}
use Rattle.jn_node_laws.proofs.Nodes.{node, Next, moved, goes_on, stuck, faults, comes, with_operands, placed_on}

module _ (p : Program) (i : Image) (n : Naming) (m : ℕ) (K : Knows) (T : Type 0) (Stands : T → Frame → Heap → Type 0)
    (code : ℕ) (it : Code) (there : slice_get i.codes code ≡ Some it) (r : Frame) (rows : RowsAre p i n) where
  wrote : (here : ℕ) (j kv cell slot : ℕ) (row : ClassRow) (u : ℤ) (vars zs a : List ℤ) (keeps : Bool) →
      At it.instrs here (ins.Put j) → cell < 4294967296 → slice_get i.classes kv ≡ Some row →
      slot_in row j ≡ Some slot → cell + 1 + slot < length a
      → move i m (active code here vars (u ∷ (ref_word kv cell ∷ zs)) keeps) a ≡ Goes
      (active code (here + 1) vars zs keeps) (slice_set a (cell + 1 + slot) u) []
  wrote here j kv cell slot row u vars zs a keeps at low rowed slotted room =
      let g = active code here vars (u ∷ (ref_word kv cell ∷ zs)) keeps in
      let of_slot : ℕ → ℕ → machine.Did = λ cell slot. if nat_lt (cell + 1 + slot) (length a) then next g zs
      (slice_set a (cell + 1 + slot) u) else Faults machine.Stuck in
      let of_row : ℕ → ClassRow → machine.Did = λ cell row. on_some machine.Null (slot_in row j) (of_slot cell) in
      let of_ref : Ref → machine.Did = λ r. on_some machine.Stuck (slice_get i.classes r.view) (of_row r.cell) in
      moved p i n m K T Stands code it there r here (ins.Put j) vars (u ∷ (ref_word kv cell ∷ zs)) a keeps at
      ∙ some_goes machine.Null (ref_in (ref_word kv cell)) (record { view = kv; cell = cell }) of_ref
      (ref_in_word (record { view = kv; cell = cell }) low)
      ∙ some_goes machine.Stuck (slice_get i.classes kv) row (of_row cell) rowed
      ∙ some_goes machine.Null (slot_in row j) slot (of_slot cell) slotted
      ∙ ap (λ (b : Bool). let d : machine.Did = if b then next g zs
      (slice_set a (cell + 1 + slot) u) else Faults machine.Stuck in d) (lt-ltb (cell + 1 + slot) (length a) room)

  pub put : (b : ℕ) (here : Site) (u t : T) (field : Name) (j kind : ℕ) (k : List Todo) (s w : ℕ) → At it.instrs s
      (ins.Put j) → FieldOf n field j kind
      → ((f : Frame) (h : Heap) → Stands u f h → WritesWell p field kind h f.vals) →
      LeadsTo p i n m K T Stands code it r here (Put field) k u t
      → Cont p i n m K T Stands code it r b here t k (s + 1) (20 + w)
      → Cont p i n m K T Stands code it r (suc b) here u (todo (length here.vars) (Put field) ∷ k) s w
  put b here u t field j kind k s w at sel facts leads h =
      node p i n m K T Stands code it there r [] b here u t (Put field) k s w leads (WritesWell p field kind) facts
      (λ f x a lv zs kp ft placed ma fact d step.
      let g = active code s lv zs kp in
      let Q : Did → Type 0 = λ d. Follows p i n m blank
      (Next p i n m K T Stands code it there r here t b) r d x g a w in
      let no_way : (d : Did) (w : Why) → d ≡ Faults (Stuck w) → Q d = λ d2 why e.
      stuck p i n m K T Stands code it there r b here t why x g a w d2 e in
      w_first Q no_way f.vals _ d step (λ v us vus step.
      let rv = one_word p n x.firsts v us f.vals zs vus placed.operands.are in
      w_first Q no_way us _ d step (λ o2 vs vvs step.
      let rw = one_word p n x.firsts o2 vs us rv.rest vvs rv.others in
      let words : zs ≡ rv.word ∷ (rw.word ∷ rw.rest) = rv.is ∙ ap (λ (zs : List ℤ). rv.word ∷ zs) rw.is in
      w_object Q no_way o2 _ d step (λ nul e.
      let zero_word : IsWord p n x.firsts Null rw.word = subst
      (λ (v : Value). IsWord p n x.firsts v rw.word) nul rw.first in
      faults p i n m K T Stands code it there r b here t AtNull machine.Null x g a w d e refl
      (comes p i n m K T Stands code it there r g a (Faults machine.Null) (rate + w)
      (moved p i n m K T Stands code it there r s (ins.Put j) lv zs a kp at ∙ ap
      (λ (zs : List ℤ). obey i m (ins.Put j) (active code s lv zs kp) a)
      (words ∙ ap (λ (z : ℤ). rv.word ∷ (z ∷ rw.rest)) zero_word.is)) (omega arith))) (λ o V ref step.
      w_only Q no_way (FieldType p V field) _ d step (λ ft2 type step.
      w_only Q no_way (IsSlot p V field) _ d step (λ sl slot step.
      w_some Q no_way (slice_get x.heap.objects o) _ _ d step (λ y oy step.
      at_test f x a lv zs kp d v vs rv.word rw.word rw.rest o V ft2 sl y ft placed ma words rv.first
      (subst (λ (v : Value). IsWord p n x.firsts v rw.word) ref rw.first) rw.others type.is
      (fact v o V vs (vus ∙ ap (λ (zs : List Value). v ∷ zs) (vvs ∙ ap (λ (z : Value). z ∷ vs) ref)) ft2 type.is)
      slot.is oy step)))))))
    where
      at_test : (f : Frame) (x : World) (a lv zs : List ℤ) (kp : Bool) (d : Did) (v : Value) (vs : List Value)
          (u z : ℤ) (rest : List ℤ) (o : ℕ) (V : Path) (ft2 : Ty) (sl : Slot) (y : Object) → f.todo ≡ k →
          Placed p n it r here f x lv zs → Matches p i n x a → zs ≡ u ∷ (z ∷ rest) → IsWord p n x.firsts v u →
          IsWord p n x.firsts (Reference o V) z → WordsAre p n x.firsts vs rest
          → FieldType p V field ft2 → FieldKind ft2 kind → IsSlot p V field sl → slice_get x.heap.objects o ≡ Some y →
          OnTest (IsIn p (this_viewed V) x.heap ft2 v) foreign
          (Rattle.jn_sem.specs.Does.goes f vs (with_slot x.heap o y sl v)) d
          → Follows p i n m blank (Next p i n m K T Stands code it there r here t b) r d x (active code s lv zs kp) a w
      at_test f x a lv zs kp d v vs u z rest o V ft2 sl y ft placed ma words vu word ws type kinded slot oy
          (fails not_in e) = stuck p i n m K T Stands code it there r b here t why.Foreign x _ a w d e
      at_test f x a lv zs kp d v vs u z rest o V ft2 sl y ft placed ma words vu word ws type kinded slot oy
          (holds is_in e) =
          let is = word.is in
          let low = block_low i n x.heap.objects x.firsts 0 (length a) o is.1 ma.blocks is.3 in
          let small = ma.small in
          let cell : is.1.cell < 4294967296 = omega (arith, low.3, small) in
          let row = row_at p i n rows V is.0 is.2 in
          let sel_at : FieldSel = record { name = field; kind = kind } in
          let entry : HasFieldEntry p n V j =
          record { sel = sel_at; selector = sel.at; type = ft2; is = type; kind = kinded } in
          let place = row.2.has_field j entry in
          let num : SlotNumber i n V field place.0 =
          record {
            k = is.0;
            row = row.0;
            is = record { class = is.2; there = row.1 };
            s = j;
            sel = sel_at;
            selector = sel.at;
            name = refl;
            slot = place.1;
          } in
          let rel : Related p y.made V = subst (λ (R : Path). Related p R V)
          (low.2 ∙ ap (λ (y : Object). y.made) (got_same low.0 y (sym low.1 ∙ oy))) is.4 in
          let block = block_at i n x.heap.objects x.firsts 0 (length a) o y is.1 ma.blocks oy is.3 in
          let high = block.high in
          let low_slot = below p i n rows y.made V field place.0 block.size rel block.cells num in
          let room : is.1.cell + 1 + place.0 < length a = omega (arith, high, low_slot) in
          let z2 : World = record { firsts = x.firsts; heap = with_slot x.heap o y sl v } in
          let on : Onward x z2 = record {
            more = [];
            firsts = sym (append-nil x.firsts);
            heap =
                (heap_laws.heaps p).slot x.heap o y sl v oy;
          } in
          let a2 = slice_set a (is.1.cell + 1 + place.0) u in
          let ma2 = stored p i n rows x a o y is.1 V field sl place.0 v u ma oy is.3 rel slot num vu in
          let f2 : Frame = record f { vals = vs } in
          let mv = moved_words f x a lv zs kp u is.0 is.1.cell rest place.0 row.0
          (words ∙ ap (λ (z : ℤ). u ∷ (z ∷ rest)) is.5) cell row.1 place.1 room in
          subst (λ (d : Did). Follows p i n m blank (Next p i n m K T Stands code it there r here t b) r d x
          (active code s lv zs kp) a w) (sym e) (record {
            firsts = x.firsts;
            next = active code (s + 1) lv rest kp;
            arena = a2;
            cost = 1;
            left = 20 + w;
            comes = comes p i n m K T Stands code it there r (active code s lv zs kp) a _ 1 mv (omega arith);
            within = omega arith;
            onward = on;
            matches = ma2;
            result = placed.result;
            goes_on = goes_on p i n m K T Stands code it there r [] b here t k (s + 1) (20 + w) h f2 z2 a2 lv rest kp ft
                (placed_on p n it r here [] f2 x z2 lv rest on
                (with_operands p n it r here [] [] f vs f.todo x lv zs rest placed (record { are = ws }))) ma2;
          })
        where
          moved_words : (f : Frame) (x : World) (a lv zs : List ℤ) (kp : Bool) (u : ℤ) (kv cell : ℕ) (rest : List ℤ)
              (slot : ℕ) (row : ClassRow) → zs ≡ u ∷ (ref_word kv cell ∷ rest) → cell < 4294967296 →
              slice_get i.classes kv ≡ Some row → slot_in row j ≡ Some slot → cell + 1 + slot < length a → move i m
              (active code s lv zs kp) a ≡ Goes (active code (s + 1) lv rest kp) (slice_set a (cell + 1 + slot) u) []
          moved_words f x a lv zs kp u kv cell rest slot row e low rowed slotted room = ap
              (λ (zs : List ℤ). move i m (active code s lv zs kp) a) e ∙
              wrote s j kv cell slot row u lv rest a kp at low rowed slotted room
