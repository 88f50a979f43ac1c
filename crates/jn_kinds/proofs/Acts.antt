-- An instruction of a valid image does with the kinds what it does without, and is not stuck.
use Rattle.std.proofs.Common.{◌≡◌, refl, sym, ap, ◌∙◌, ℕ, zero, suc, ◌+◌, ◌<◌, ◌≤◌, List, [], ◌∷◌, ◌++◌, length, map, drop, reverse, ℤ, pos, Bool, true, false, not, Option, Some, None, slice_get, slice_set, nat_lt, nat_le, arith, subst}
use Rattle.std.specs.Prelude.{is_some, nat_eq, int_lt, int_le, if◌then◌else◌}
use Rattle.std.specs.Ordering.{int_eq}
use Rattle.std.specs.Option.{option_map, option_and_then}
use Rattle.std.proofs.lemmas.Bool.{ltb-true, leb-true, eqb-true}
use Rattle.std.proofs.lemmas.Bool.Decides.{nat_tests}
use Rattle.std.proofs.lemmas.List.{length-append, append-nil, length-map, map-append}
use Rattle.std.proofs.lemmas.Option.{slice_get-map}
use Rattle.jn_steps.specs.Steps.{Goes, Enters, Faults, on_some, on_one, on_two}
use Rattle.jn_steps.specs.Numbers.{sum_of, difference_of, product_of, negation_of, quotient_of, remainder_of, line_of, number_line, truth_line}
use Rattle.jn_code.specs.declared.kind.OperandKind.{OperandKind}
use Rattle.jn_code.specs.declared.kind.OperandKind.TheVariants as kind
use Rattle.jn_code.specs.declared.instr.Instr.{Instr}
use Rattle.jn_code.specs.declared.instr.Instr.TheVariants as op
use Rattle.jn_code.specs.declared.image.Image.{Image}
use Rattle.jn_code.specs.declared.image.Shape.{Shape}
use Rattle.jn_code.specs.declared.image.Group.{Group}
use Rattle.jn_code.specs.declared.image.ClassRow.{ClassRow}
use Rattle.jn_code.specs.declared.image.Code.{Code}
use Rattle.jn_code.specs.Kinds.{kind_of, result_kind, locals_of, local_kind, argument_kinds, arguments_of, result_of, field_kind, each_some, one, list_of, after_it, target_of, goes_on}
use Rattle.jn_code.specs.Rows.{numbered}
use Rattle.jn_code.specs.Valid.{suits, all_suit}
use Rattle.jn_code.specs.Known.{KnownAt, notes_of}
use Rattle.jn_code.specs.Form.{InstrInForm}
use Rattle.jn_code.specs.Going.{Cell, Slot, Views, IsRef, code_result}
use Rattle.jn_code.specs.Machine as plain
use Rattle.jn_code.specs.Machine.{Null, Zero, Arena, Stuck, Ref, Did, ups_of, member_in, code_in, slot_in, other_in, counterpart_of}
use Rattle.jn_code.proofs.Sound.{get_below, get_there, set_long}
use Rattle.jn_code.proofs.Words.{Later, later_refl, object_plan, plan_grows, ref_in_word}
use Rattle.jn_code.proofs.RowFacts.{RowsOk, RowIs, row_is, numbered_is, member_there, ups_there, group_there, IsEntry, code_there, IsSlot, slot_there, other_there}
use Rattle.jn_code.proofs.Obeyed.{drop_one, each_long, each_both, dropped}
use Rattle.jn_kinds.specs.Values.{Value, Number, Truth, NoObject, Object, Class, word, words, Held, Head, Holds, held_word}
use Rattle.jn_kinds.specs.Careful.{Careful, Heap, Act, next, jump, waits, on_number, on_numbers, on_truth, on_reference, on_held, on_viewed, on_field, on_call, same_truth, same_object, object_cells, make, construct, obey}
use Rattle.jn_kinds.specs.Kept.{plain_frame}
use Rattle.jn_kinds.proofs.Fit.{IsVal, AreVals, HeapFits, CellFits, vals_later, pairs_long, pairs_get, pairs_set, heap_made, new_val, cells_words, map_set, object_of}
use Rattle.jn_kinds.proofs.Both.{HandsBack, plain_act, Both, Ready, push, as_kind, some_there, some_or, if_ok, one_ok, two_ok, shape_ok, number_ok, truth_ok, class_ok, row_ok, low_cell, object_ok}

hands_back : (i : Image) (p : List Cell) (r : Option OperandKind) (k : OperandKind) (v : Value) → suits r k ≡ true → is_some r ≡ true → IsVal i p k v → HandsBack i p r (Some v)
hands_back i p None k v s b w = absurd cc
hands_back i p (Some j) k v s b w = as_kind i p j k v s w

nothing_back : (i : Image) (p : List Cell) (r : Option OperandKind) → not (is_some r) ≡ true → HandsBack i p r None
nothing_back i p None b = tt
nothing_back i p (Some j) b = absurd cc

truth_word : (b : Bool) → b ≡ plain.truth (plain.word_of b)
truth_word true = refl
truth_word false = refl

same_truth_is : (b c : Bool) → same_truth b c ≡ int_eq (plain.word_of b) (plain.word_of c)
same_truth_is true true = refl
same_truth_is true false = refl
same_truth_is false true = refl
same_truth_is false false = refl

-- a truth value of an instruction is 0 or 1
truth_of : (b : ℕ) → b ≤ 1 → plain.word_of (not (nat_eq b 0)) ≡ pos b
truth_of zero l = refl
truth_of (suc zero) l = refl
truth_of (suc (suc b)) l = absurd (omega arith)

-- what tells an object from others
tag : Option ℕ → ℕ
tag None = 0
tag (Some c) = c + 1

same_tag : (a b : Option ℕ) → same_object a b ≡ nat_eq (tag a) (tag b)
unfolding tag
same_tag None None = refl
same_tag None (Some b) = grind (arith, nat_tests)
same_tag (Some a) None = grind (arith, nat_tests)
same_tag (Some a) (Some b) = grind (arith, nat_tests)

module _ (i : Image) (m : ℕ) (rows : RowsOk i) (p : List Cell) (f : Careful) (c : Code) (ks : List OperandKind) (h : Heap) (hp : HeapFits i m p h) where
  abbrev Ok : Act → Did → Type 0
  Ok = Both i m p f.code

  abbrev Vals : List OperandKind → List Value → Type 0
  Vals = AreVals i p

  abbrev PF : plain.Frame
  PF = plain_frame f

  abbrev PH : List ℤ
  PH = map held_word h

  zero_is_ok : Ok (Faults Zero) (Faults Zero)
  zero_is_ok = record { fits = λ e. cc; same = refl }

  null_is_ok : Ok (Faults Null) (Faults Null)
  null_is_ok = record { fits = λ e. cc; same = refl }

  arena_is_ok : Ok (Faults Arena) (Faults Arena)
  arena_is_ok = record { fits = λ e. cc; same = refl }

  some_left : {A : Type 0} (fault : plain.Halt) (o : Option A) (a : A) (go : A → Act) (e : Did) → o ≡ Some a → Ok (go a) e → Ok (on_some fault o go) e
  some_left fault None a go e q w = absurd cc
  some_left {A} fault (Some b) a go e q w = let t : a ≡ b = cc in subst (λ (a : A). Ok (go a) e) t w

  -- the next instruction, with these variables, operands and heap
  on_later : (x : Instr) (r : Ready i p f c x ks) (q : List Cell) (vars vals : List Value) (g : Heap) (bytes : List ℕ) (e : Did) → Later p q → HeapFits i m q g → goes_on x ≡ true → AreVals i q (locals_of c) vars → AreVals i q (after_it i c x ks) vals → plain_act (Goes (record { code = f.code; place = f.place + 1; vars = vars; vals = vals; keeps = f.keeps }) g bytes) ≡ e → Ok (Goes (record { code = f.code; place = f.place + 1; vars = vars; vals = vals; keeps = f.keeps }) g bytes) e
  on_later x r q vars vals g bytes e l hq o u v same = record {
    fits = (q, l, hq, record { code = c; is = r.is; ks = after_it i c x ks; known = r.next o; vars = u; vals = v }, refl);
    same = same;
  }

  on_next : (x : Instr) (r : Ready i p f c x ks) (vals : List Value) (zs : List ℤ) (bytes : List ℕ) → goes_on x ≡ true → Vals (after_it i c x ks) vals → words vals ≡ zs → Ok (Goes (record { code = f.code; place = f.place + 1; vars = f.vars; vals = vals; keeps = f.keeps }) h bytes) (plain.next_printing PF zs PH bytes)
  on_next x r vals zs bytes e v same =
      on_later x r p f.vars vals h bytes _ (later_refl p) hp e r.vars v (ap (λ zs. plain.next_printing PF zs PH bytes) same)

  -- with one more operand
  on_val : (x : Instr) (r : Ready i p f c x ks) (k : OperandKind) (rest : List OperandKind) (v : Value) (z : ℤ) (ys : List Value) → goes_on x ≡ true → after_it i c x ks ≡ k ∷ rest → IsVal i p k v → Vals rest ys → word v ≡ z → Ok (next f (v ∷ ys) h) (plain.next PF (z ∷ words ys) PH)
  on_val x r k rest v z ys g e w u same =
      on_next x r (v ∷ ys) (z ∷ words ys) [] g (subst (λ (js : List OperandKind). Vals js (v ∷ ys)) (sym e) (push i p k rest v ys w u)) (ap (λ z. z ∷ words ys) same)

  on_jump : (x : Instr) (r : Ready i p f c x ks) (t : ℕ) (vals : List Value) → target_of x ≡ Some t → Vals (after_it i c x ks) vals → Ok (jump t f vals h) (plain.jump t PF (words vals) PH)
  on_jump x r t vals e v = record {
    fits = (p, later_refl p, hp, record { code = c; is = r.is; ks = after_it i c x ks; known = r.target t e; vars = r.vars; vals = v }, refl);
    same = refl;
  }

  numbers_ok : (go : ℤ → ℤ → List Value → Act) (run : ℤ → ℤ → List ℤ → Did) → all_suit (Some kind.Int ∷ (Some kind.Int ∷ [])) ks ≡ true → Vals ks f.vals → ((x y : ℤ) (ys : List Value) → Vals (drop 2 ks) ys → Ok (go x y ys) (run x y (words ys))) → Ok (on_numbers f.vals go) (on_two Stuck (words f.vals) run)
  numbers_ok go run s vals g =
      two_ok i p Ok (Some kind.Int) (Some kind.Int) ks f.vals (λ v w vs. on_number v (λ x. on_number w (λ y. go x y vs))) run s vals (λ j k y z ys s1 w1 s2 w2 u.
      number_ok i p Ok y (λ x. on_number z (λ b. go x b ys)) (λ a. run a (word z) (words ys)) (as_kind i p kind.Int j y s1 w1) (λ x.
      number_ok i p Ok z (λ b. go x b ys) (λ b. run x b (words ys)) (as_kind i p kind.Int k z s2 w2) (λ y. g x y ys u)))

  -- an operator on two numbers
  two_numbers : (x : Instr) (r : Ready i p f c x ks) (k : OperandKind) (of : ℤ → ℤ → Value) → all_suit (Some kind.Int ∷ (Some kind.Int ∷ [])) ks ≡ true → goes_on x ≡ true → ((y z : ℤ) → IsVal i p k (of y z)) → after_it i c x ks ≡ k ∷ drop 2 ks → Ok (on_numbers f.vals (λ y z vs. next f (of y z ∷ vs) h)) (on_two Stuck (words f.vals) (λ y z vs. plain.next PF (word (of y z) ∷ vs) PH))
  two_numbers x r k of s g val e =
      numbers_ok (λ y z vs. next f (of y z ∷ vs) h) (λ y z vs. plain.next PF (word (of y z) ∷ vs) PH) s r.vals (λ y z ys u. on_val x r k (drop 2 ks) (of y z) (word (of y z)) ys g e (val y z) u refl)

  part_two : (x : Instr) (r : Ready i p f c x ks) (of : ℤ → ℤ → Option ℤ) → all_suit (Some kind.Int ∷ (Some kind.Int ∷ [])) ks ≡ true → goes_on x ≡ true → after_it i c x ks ≡ kind.Int ∷ drop 2 ks → Ok (on_numbers f.vals (λ y z vs. on_some Zero (of y z) (λ q. next f (Number q ∷ vs) h))) (on_two Stuck (words f.vals) (λ y z vs. on_some Zero (of y z) (λ q. plain.next PF (q ∷ vs) PH)))
  part_two x r of s g e =
      numbers_ok (λ y z vs. on_some Zero (of y z) (λ q. next f (Number q ∷ vs) h)) (λ y z vs. on_some Zero (of y z) (λ q. plain.next PF (q ∷ vs) PH)) s r.vals (λ y z ys u.
      some_or i p Ok Zero (of y z) (λ q. next f (Number q ∷ ys) h) (λ q. plain.next PF (q ∷ words ys) PH) zero_is_ok (λ q t. on_val x r kind.Int (drop 2 ks) (Number q) q ys g e (record { kind = refl; names = tt }) u refl))

  load_ok : (x : ℕ) → Ready i p f c (op.Load x) ks → Ok (obey i m (op.Load x) f h) (plain.obey i m (op.Load x) PF PH)
  load_ok x r =
      let b = ltb-true x (length (locals_of c)) r.own.local in
      let k = get_there (locals_of c) x b in
      let v = pairs_get (IsVal i p) (locals_of c) f.vars x k.0 r.vars.are k.1 in
      let e : slice_get (words f.vars) x ≡ Some (word v.0) = slice_get-map word f.vars x ∙ ap (option_map word) v.1 in
      let gives : after_it i c (op.Load x) ks ≡ k.0 ∷ ks = ap (λ (o : Option OperandKind). list_of o ++ ks) k.1 in
      some_there i p Ok Stuck (slice_get f.vars x) (slice_get (words f.vars) x) v.0 (word v.0) _ _ v.1 e (on_val (op.Load x) r k.0 ks v.0 (word v.0) f.vals refl gives v.2 r.vals refl)

  store_ok : (x : ℕ) → Ready i p f c (op.Store x) ks → Ok (obey i m (op.Store x) f h) (plain.obey i m (op.Store x) PF PH)
  store_ok x r =
      let b : x < length (locals_of c) = ltb-true x (length (locals_of c)) r.own.local in
      let l : length (locals_of c) ≡ length f.vars = pairs_long (IsVal i p) (locals_of c) f.vars r.vars.are in
      let j = get_there (locals_of c) x b in
      let n : nat_lt x (length f.vars) ≡ nat_lt x (length (words f.vars)) = ap (nat_lt x) (sym (length-map f.vars word)) in
      one_ok i p Ok (local_kind c x) [] ks f.vals _ _ r.own.suits r.vals (λ k v ys s w t u.
      let z = as_kind i p j.0 k v (subst (λ (o : Option OperandKind). suits o k ≡ true) j.1 s) w in
      if_ok i p Ok (nat_lt x (length f.vars)) (nat_lt x (length (words f.vars))) _ _ _ _ n
      (λ e. on_later (op.Store x) r p (slice_set f.vars x v) ys h [] _ (later_refl p) hp refl (record { are = pairs_set (IsVal i p) (locals_of c) f.vars x j.0 v r.vars.are j.1 z }) u
      (ap (λ (vars : List ℤ). plain.next (record PF { vars = vars }) (words ys) PH) (map_set word f.vars x v)))
      (λ e. absurd (let d : x < length f.vars = omega arith in grind (arith, nat_tests))))

  truth_test : (x : Instr) (r : Ready i p f c x ks) (go : Bool → List Value → Act) (run : ℤ → List ℤ → Did) → all_suit (Some kind.Bool ∷ []) ks ≡ true → ((b : Bool) (ys : List Value) → Vals (drop 1 ks) ys → Ok (go b ys) (run (plain.word_of b) (words ys))) → Ok (on_one Stuck f.vals (λ v vs. on_truth v (λ b. go b vs))) (on_one Stuck (words f.vals) run)
  truth_test x r go run s g =
      one_ok i p Ok (Some kind.Bool) [] ks f.vals (λ v vs. on_truth v (λ b. go b vs)) run s r.vals (λ k v ys s w t u.
      truth_ok i p Ok v (λ b. go b ys) (λ z. run z (words ys)) (as_kind i p kind.Bool k v s w) (λ b. g b ys u))

  number_of : (x : Instr) (r : Ready i p f c x ks) (go : ℤ → List Value → Act) (run : ℤ → List ℤ → Did) → all_suit (Some kind.Int ∷ []) ks ≡ true → ((z : ℤ) (ys : List Value) → Vals (drop 1 ks) ys → Ok (go z ys) (run z (words ys))) → Ok (on_one Stuck f.vals (λ v vs. on_number v (λ z. go z vs))) (on_one Stuck (words f.vals) run)
  number_of x r go run s g =
      one_ok i p Ok (Some kind.Int) [] ks f.vals (λ v vs. on_number v (λ z. go z vs)) run s r.vals (λ k v ys s w t u.
      number_ok i p Ok v (λ z. go z ys) (λ z. run z (words ys)) (as_kind i p kind.Int k v s w) (λ z. g z ys u))

  eqb_ok : Ready i p f c op.Eqb ks → Ok (obey i m op.Eqb f h) (plain.obey i m op.Eqb PF PH)
  eqb_ok r =
      two_ok i p Ok (Some kind.Bool) (Some kind.Bool) ks f.vals _ _ r.own.suits r.vals (λ j k v w ys s1 w1 s2 w2 u.
      truth_ok i p Ok v _ (λ a. plain.next PF (plain.word_of (int_eq a (word w)) ∷ words ys) PH) (as_kind i p kind.Bool j v s1 w1) (λ b.
      truth_ok i p Ok w _ (λ z. plain.next PF (plain.word_of (int_eq (plain.word_of b) z) ∷ words ys) PH) (as_kind i p kind.Bool k w s2 w2) (λ d.
      on_val op.Eqb r kind.Bool (drop 2 ks) (Truth (same_truth b d)) _ ys refl refl (record { kind = refl; names = tt }) u (ap plain.word_of (same_truth_is b d)))))

  reference_ok : (v : Value) (go : Option ℕ → Act) (e : Did) → IsVal i p kind.Reference v → ((o : Option ℕ) → tag o ≡ plain.object_in (word v) → Ok (go o) e) → Ok (on_reference v go) e
  unfolding tag
  reference_ok NoObject go e w g = g None refl
  reference_ok (Object view cell) go e w g =
      g (Some cell) (sym (object_of view cell (low_cell i p Ok m h hp view cell w.names)))
  reference_ok (Number z) go e w g = absurd (let q = w.kind in cc)
  reference_ok (Truth b) go e w g = absurd (let q = w.kind in cc)
  reference_ok (Class k) go e w g = absurd (let q = w.kind in cc)

  eqr_ok : Ready i p f c op.Eqr ks → Ok (obey i m op.Eqr f h) (plain.obey i m op.Eqr PF PH)
  eqr_ok r =
      two_ok i p Ok (Some kind.Reference) (Some kind.Reference) ks f.vals _ _ r.own.suits r.vals (λ j k v w ys s1 w1 s2 w2 u.
      reference_ok v _ _ (as_kind i p kind.Reference j v s1 w1) (λ a q.
      reference_ok w _ _ (as_kind i p kind.Reference k w s2 w2) (λ b t.
      let same : same_object a b ≡ nat_eq (plain.object_in (word v)) (plain.object_in (word w)) = same_tag a b ∙ ap (λ n. nat_eq n (tag b)) q ∙ ap (nat_eq (plain.object_in (word v))) t in
      on_val op.Eqr r kind.Bool (drop 2 ks) (Truth (same_object a b)) _ ys refl refl (record { kind = refl; names = tt }) u (ap plain.word_of same))))

  viewof_ok : Ready i p f c op.Viewof ks → Ok (obey i m op.Viewof f h) (plain.obey i m op.Viewof PF PH)
  viewof_ok r =
      one_ok i p Ok (Some kind.Reference) [] ks f.vals _ _ r.own.suits r.vals (λ k v ys s w t u.
      object_ok i p Ok m h hp v _ _ (as_kind i p kind.Reference k v s w) null_is_ok (λ view cell e n.
      on_val op.Viewof r kind.Class (drop 1 ks) (Class view) (pos view) ys refl refl (record { kind = refl; names = get_below i.classes view n.views.row n.views.is }) u refl))

  up_ok : (n : ℕ) → Ready i p f c (op.Up n) ks → Ok (obey i m (op.Up n) f h) (plain.obey i m (op.Up n) PF PH)
  up_ok n r =
      one_ok i p Ok (Some kind.Class) [] ks f.vals _ _ r.own.suits r.vals (λ k v ys s w t u.
      class_ok i p Ok v _ (λ z. on_some Null (ups_of i n (plain.class_in z)) (λ k. plain.next PF (pos k ∷ words ys) PH)) (as_kind i p kind.Class k v s w) (λ k b.
      some_or i p Ok Null (ups_of i n k) _ _ null_is_ok (λ t e.
      on_val (op.Up n) r kind.Class (drop 1 ks) (Class t) (pos t) ys refl refl (record { kind = refl; names = ups_there i n k t rows b e }) u refl)))

  down_ok : (name : ℕ) → Ready i p f c (op.Down name) ks → Ok (obey i m (op.Down name) f h) (plain.obey i m (op.Down name) PF PH)
  down_ok name r =
      one_ok i p Ok (Some kind.Class) [] ks f.vals _ _ r.own.suits r.vals (λ k v ys s w t u.
      class_ok i p Ok v _ (λ z. plain.on_row i (plain.class_in z) (λ row. on_some Null (member_in row name) (λ k. plain.next PF (pos k ∷ words ys) PH))) (as_kind i p kind.Class k v s w) (λ k b.
      row_ok i p Ok k _ _ b (λ row q.
      some_or i p Ok Null (member_in row name) _ _ null_is_ok (λ t e.
      on_val (op.Down name) r kind.Class (drop 1 ks) (Class t) (pos t) ys refl refl (record { kind = refl; names = member_there i k row name t (row_is i k row (rows k row q)) e }) u refl))))

  make_ok : (r : Ready i p f c op.New ks) (k number : ℕ) (g : Group) (vs : List Value) → slice_get i.groups number ≡ Some g → Views i k number → Vals (drop 1 ks) vs → Ok (make m k (object_cells number g) f vs h) (plain.make m k (plain.object_cells number g) PF (words vs) PH)
  make_ok r k number g vs e w v =
      let cells = object_cells number g in
      let l : length (h ++ cells) ≡ length h + length cells = length-append h cells in
      let hl : length PH ≡ length h = length-map h held_word in
      let cl : length (plain.object_cells number g) ≡ length cells = ap length (sym (cells_words number g)) ∙ length-map cells held_word in
      let n : nat_le (length h + length cells) m ≡ nat_le (length PH + length (plain.object_cells number g)) m = ap (λ n. nat_le (n + length cells) m) (sym hl) ∙ ap (λ n. nat_le (length PH + n) m) (sym cl) in
      let more = plan_grows p (object_plan number g) in
      let q = p ++ object_plan number g in
      let joined : map held_word (h ++ cells) ≡ PH ++ plain.object_cells number g = map-append held_word h cells ∙ ap (λ zs. PH ++ zs) (cells_words number g) in
      let same : plain.next PF (words (Object k (length h) ∷ vs)) (map held_word (h ++ cells)) ≡ plain.next PF (plain.ref_word k (length PH) ∷ words vs) (PH ++ plain.object_cells number g) = ap (plain.next PF (words (Object k (length h) ∷ vs))) joined ∙ ap (λ n. plain.next PF (plain.ref_word k n ∷ words vs) (PH ++ plain.object_cells number g)) (sym hl) in
      if_ok i p Ok (nat_le (length h + length cells) m) (nat_le (length PH + length (plain.object_cells number g)) m) _ _ _ _ n
      (λ b. let d : length h + length cells ≤ m = leb-true (length h + length cells) m b in
      on_later op.New r q f.vars (Object k (length h) ∷ vs) (h ++ cells) [] _ more (heap_made i m p h number g e hp (omega arith)) refl (vals_later i p q (locals_of c) f.vars more r.vars) (push i q kind.Reference _ _ vs (new_val i m p h k number g hp w) (vals_later i p q (drop 1 ks) vs more v)) same)
      (λ b. arena_is_ok)

  new_ok : Ready i p f c op.New ks → Ok (obey i m op.New f h) (plain.obey i m op.New PF PH)
  new_ok r =
      one_ok i p Ok (Some kind.Class) [] ks f.vals _ _ r.own.suits r.vals (λ k v ys s w t u.
      class_ok i p Ok v _ (λ z. plain.on_row i (plain.class_in z) (λ row. on_some Null (numbered row.group) (λ number. on_some Stuck (slice_get i.groups number) (λ g. plain.make m (plain.class_in z) (plain.object_cells number g) PF (words ys) PH)))) (as_kind i p kind.Class k v s w) (λ k b.
      row_ok i p Ok k _ _ b (λ row q.
      some_or i p Ok Null (numbered row.group) _ _ null_is_ok (λ number e.
      let n = numbered_is row.group number e in
      let g = group_there i k row (row_is i k row (rows k row q)) n.1 in
      let d : slice_get i.groups number ≡ Some g.0 = ap (slice_get i.groups) (sym n.0) ∙ g.1 in
      let views : Views i k number = record { row = row; is = q; same = n.0; some = subst (λ (k : ℕ). nat_eq k 65535 ≡ false) n.0 n.1 } in
      some_there i p Ok Stuck (slice_get i.groups number) (slice_get i.groups number) g.0 g.0 _ _ d d (make_ok r k number g.0 ys d views u)))))

  -- the values of a code's parameters
  entry_vals : (s b : ℕ) (shape : Shape) (e : IsEntry i s b) (v : Value) (args : List Value) → slice_get i.methods s ≡ Some shape → IsVal i p kind.Reference v → Vals (map kind_of shape.params) args → Vals (map kind_of e.code.params) (v ∷ args)
  entry_vals s b shape e v args q w a =
      let d : shape ≡ e.shape = let t = e.selector in cc in
      let u : Vals (map kind_of (3 ∷ e.shape.params)) (v ∷ args) = push i p kind.Reference _ v args w (subst (λ (x : Shape). Vals (map kind_of x.params) args) d a) in
      subst (λ (bs : List ℕ). Vals (map kind_of bs) (v ∷ args)) (sym e.params) u

  construct_ok : (s : ℕ) (r : Ready i p f c (op.Ctor s) ks) (shape : Shape) (row : ClassRow) (k : ℕ) (v : Value) (args vs : List Value) (o : Option ℕ) → slice_get i.methods s ≡ Some shape → RowIs i k row → code_in row s ≡ o → IsVal i p kind.Reference v → Vals (map kind_of shape.params) args → Vals (after_it i c (op.Ctor s) ks) (v ∷ vs) → Ok (construct o v args f vs h) (plain.construct o (word v) (words args) PF (words vs) PH)
  construct_ok s r shape row k v args vs None q ok e w a u =
      on_next (op.Ctor s) r (v ∷ vs) _ [] refl u refl
  construct_ok s r shape row k v args vs (Some b) q ok e w a u =
      let d = code_there i k row s b ok e in
      record {
        fits = (d.code, d.is, entry_vals s b shape d v args q w a, record { code = c; is = r.is; ks = after_it i c (op.Ctor s) ks; known = r.next refl; vars = r.vars; vals = u }, hp, refl);
        same = refl;
      }

  ctor_ok : (s : ℕ) → Ready i p f c (op.Ctor s) ks → Ok (obey i m (op.Ctor s) f h) (plain.obey i m (op.Ctor s) PF PH)
  ctor_ok s r =
      let shape = get_there i.methods s (ltb-true s (length i.methods) r.own.number) in
      let ps = reverse (map kind_of shape.0.params) in
      let is : arguments_of i s ≡ ps = ap argument_kinds shape.1 in
      let nil : each_some (arguments_of i s) ≡ each_some ps ++ [] = ap each_some is ∙ sym (append-nil (each_some ps)) in
      let long : suc (length ps) ≡ suc (length (each_some (arguments_of i s))) = ap suc (sym (each_long ps) ∙ ap (λ (qs : List OperandKind). length (each_some qs)) (sym is)) in
      one_ok i p Ok (Some kind.Reference) (each_some (arguments_of i s)) ks f.vals _ _ r.own.suits r.vals (λ k v below t w u y.
      let v_is = as_kind i p kind.Reference k v t w in
      some_there i p Ok Stuck (slice_get i.methods s) (slice_get i.methods s) shape.0 shape.0 _ _ shape.1 shape.1
      (shape_ok i p Ok shape.0 [] (drop 1 ks) below _ _ (subst (λ (ws : List (Option OperandKind)). all_suit ws (drop 1 ks) ≡ true) nil u) y (λ args vs a b d.
      object_ok i p Ok m h hp v _ _ v_is null_is_ok (λ view cell e n.
      let left : drop (length ps) (drop 1 ks) ≡ drop (suc (length (each_some (arguments_of i s)))) ks = drop_one (length ps) ks ∙ ap (λ n. drop n ks) long in
      let vals : Vals (after_it i c (op.Ctor s) ks) (v ∷ vs) = push i p kind.Reference _ v vs v_is (subst (λ (js : List OperandKind). Vals js vs) left d) in
      some_there i p Ok Stuck (slice_get i.classes view) (slice_get i.classes view) n.views.row n.views.row _ _ n.views.is n.views.is
      (construct_ok s r shape.0 n.views.row view v args vs (code_in n.views.row s) shape.1 (row_is i view n.views.row (rows view n.views.row n.views.is)) refl v_is a vals)))))

  -- the arguments of a method, and the receiver below them
  call_ok : (s : ℕ) (shape : Shape) (js : List OperandKind) (vals : List Value) (go : List Value → Value → List Value → Act) (run : List ℤ → ℤ → List ℤ → Did) → slice_get i.methods s ≡ Some shape → all_suit (each_some (arguments_of i s ++ one kind.Reference)) js ≡ true → Vals js vals → ((args : List Value) (v : Value) (vs : List Value) → Vals (map kind_of shape.params) args → IsVal i p kind.Reference v → Vals (drop (length (each_some (arguments_of i s ++ one kind.Reference))) js) vs → Ok (go args v vs) (run (words args) (word v) (words vs))) → Ok (on_call i s vals go) (plain.on_call i s (words vals) run)
  call_ok s shape js vals go run e t v g =
      let ps = reverse (map kind_of shape.params) in
      let is : arguments_of i s ≡ ps = ap argument_kinds e in
      let both : each_some (arguments_of i s ++ one kind.Reference) ≡ each_some ps ++ one (Some kind.Reference) = ap (λ (qs : List OperandKind). each_some (qs ++ one kind.Reference)) is ∙ each_both ps (one kind.Reference) in
      some_there i p Ok Stuck (slice_get i.methods s) (slice_get i.methods s) shape shape _ _ e e
      (shape_ok i p Ok shape (one (Some kind.Reference)) js vals _ _ (subst (λ (ws : List (Option OperandKind)). all_suit ws js ≡ true) both t) v (λ args below a b d.
      one_ok i p Ok (Some kind.Reference) [] (drop (length ps) js) below _ _ b d (λ k v vs s2 w u y.
      let left : drop 1 (drop (length ps) js) ≡ drop (length (each_some (arguments_of i s ++ one kind.Reference))) js =
      dropped ps js ∙ ap (λ (qs : List OperandKind). drop (length (each_some (qs ++ one kind.Reference))) js) (sym is) in
      g args v vs a (as_kind i p kind.Reference k v s2 w) (subst (λ (ls : List OperandKind). Vals ls vs) left y))))

  -- a call that is made
  enters_ok : (x : Instr) (r : Ready i p f c x ks) (s b k : ℕ) (row : ClassRow) (shape : Shape) (v : Value) (args vs : List Value) (rest : List OperandKind) → slice_get i.methods s ≡ Some shape → RowIs i k row → code_in row s ≡ Some b → IsVal i p kind.Reference v → Vals (map kind_of shape.params) args → goes_on x ≡ true → after_it i c x ks ≡ list_of (result_of i s) ++ rest → Vals rest vs → Ok (Enters b (v ∷ args) (waits true f vs) h) (Enters b (word v ∷ words args) (plain.waits true PF (words vs)) PH)
  enters_ok x r s b k row shape v args vs rest q ok e w a g after' u =
      let d = code_there i k row s b ok e in
      let one' : result_of i s ≡ result_kind d.code.result =
      ap (option_and_then (λ (t : Shape). result_kind t.result)) d.selector ∙ ap result_kind (sym d.result) in
      let known : KnownAt (notes_of i c) (f.place + 1) (list_of (result_kind d.code.result) ++ rest) =
      subst (λ (o : Option OperandKind). KnownAt (notes_of i c) (f.place + 1) (list_of o ++ rest)) one' (subst (λ (js : List OperandKind). KnownAt (notes_of i c) (f.place + 1) js) after' (r.next g)) in
      record {
        fits = (d.code, d.is, entry_vals s b shape d v args q w a, record { code = c; is = r.is; ks = rest; known = known; vars = r.vars; vals = u }, hp, refl);
        same = refl;
      }

  plain_call_ok : (s : ℕ) → Ready i p f c (op.Call s) ks → Ok (obey i m (op.Call s) f h) (plain.obey i m (op.Call s) PF PH)
  plain_call_ok s r =
      let shape = get_there i.methods s (ltb-true s (length i.methods) r.own.number) in
      call_ok s shape.0 ks f.vals _ _ shape.1 r.own.suits r.vals (λ args v vs a w u.
      object_ok i p Ok m h hp v _ _ w null_is_ok (λ view cell e n.
      some_there i p Ok Stuck (slice_get i.classes view) (slice_get i.classes view) n.views.row n.views.row _ _ n.views.is n.views.is
      (some_or i p Ok Null (code_in n.views.row s) _ _ null_is_ok (λ b t.
      enters_ok (op.Call s) r s b view n.views.row shape.0 v args vs (drop (length (each_some (arguments_of i s ++ one kind.Reference))) ks) shape.1 (row_is i view n.views.row (rows view n.views.row n.views.is)) t w a refl refl u))))

  callat_ok : (s : ℕ) → Ready i p f c (op.Callat s) ks → Ok (obey i m (op.Callat s) f h) (plain.obey i m (op.Callat s) PF PH)
  callat_ok s r =
      let shape = get_there i.methods s (ltb-true s (length i.methods) r.own.number) in
      let n = length (each_some (arguments_of i s ++ one kind.Reference)) in
      one_ok i p Ok (Some kind.Class) (each_some (arguments_of i s ++ one kind.Reference)) ks f.vals _ _ r.own.suits r.vals (λ k y below s1 y_is t v.
      call_ok s shape.0 (drop 1 ks) below _ _ shape.1 t v (λ args z vs a w u.
      object_ok i p Ok m h hp z _ _ w null_is_ok (λ view cell e d.
      class_ok i p Ok y _ (λ y. plain.on_row i (plain.class_in y) (λ row. on_some Null (code_in row s) (λ b. Enters b (word z ∷ words args) (plain.waits true PF (words vs)) PH))) (as_kind i p kind.Class k y s1 y_is) (λ k b.
      row_ok i p Ok k _ _ b (λ row q.
      some_or i p Ok Null (code_in row s) _ _ null_is_ok (λ b t2.
      enters_ok (op.Callat s) r s b k row shape.0 z args vs (drop (suc n) ks) shape.1 (row_is i k row (rows k row q)) t2 w a refl refl (subst (λ (js : List OperandKind). Vals js vs) (drop_one n ks) u)))))))

  -- a reference viewed in a family
  other_ok : (family view cell : ℕ) (u : IsRef i p (record { view = view; cell = cell })) (k : ℕ) → counterpart_of view u.views.row family ≡ Some k → IsRef i p (record { view = k; cell = cell })
  other_ok family view cell u k e = at (nat_eq u.views.row.family family) e
    where
      at : (b : Bool) → if◌then◌else◌ {A = Option ℕ} b (Some view) (other_in u.views.row family) ≡ Some k → IsRef i p (record { view = k; cell = cell })
      at true e =
          let d : view ≡ k = cc in
          record { group = u.group; views = subst (λ (k : ℕ). Views i k u.group) d u.views; first = u.first }
      at false e =
          let o = other_there i view u.views.row family k (row_is i view u.views.row (rows view u.views.row u.views.is)) e in
          record { group = u.group; views = record { row = o.row; is = o.is; same = o.same ∙ u.views.same; some = u.views.some }; first = u.first }

  mapped_ok : (of : ℕ → ℤ) (o : Option ℕ) (go : ℕ → Act) (run : ℤ → Did) → ((k : ℕ) → o ≡ Some k → Ok (go k) (run (of k))) → Ok (on_some Null o go) (on_some Null (option_map of o) run)
  mapped_ok of None go run g = null_is_ok
  mapped_ok of (Some k) go run g = g k refl

  viewed_ok : (family : ℕ) (v : Value) (go : Value → Act) (run : ℤ → Did) → IsVal i p kind.Reference v → ((w : Value) → IsVal i p kind.Reference w → Ok (go w) (run (word w))) → Ok (on_viewed i family v go) (on_some Null (plain.viewed i family (word v)) run)
  viewed_ok family NoObject go run w g = g NoObject (record { kind = refl; names = tt })
  viewed_ok family (Object view cell) go run w g =
      let u = w.names in
      let low = low_cell i p Ok m h hp view cell u in
      let e : plain.ref_in (plain.ref_word view cell) ≡ Some (record { view = view; cell = cell }) = ref_in_word (record { view = view; cell = cell }) (omega arith) in
      let row = u.views.row in
      let there = u.views.is in
      let Q : Option Ref → Type 0 = λ o. Ok (on_viewed i family (Object view cell) go) (on_some Null (plain.viewed_as i family (plain.ref_word view cell) o) run) in
      let S : Option ClassRow → Type 0 = λ o. Ok (on_some Stuck o (λ row. on_some Null (counterpart_of view row family) (λ k. go (Object k cell)))) (on_some Null (option_and_then (λ (row : ClassRow). option_map (λ k. plain.ref_word k cell) (counterpart_of view row family)) o) run) in
      let inner : S (Some row) = mapped_ok (λ k. plain.ref_word k cell) (counterpart_of view row family) (λ k. go (Object k cell)) run (λ k q. g (Object k cell) (record { kind = refl; names = other_ok family view cell u k q })) in
      let outer : S (slice_get i.classes view) = subst S (sym there) inner in
      subst Q (sym e) outer
  viewed_ok family (Number z) go run w g = absurd (let e = w.kind in cc)
  viewed_ok family (Truth b) go run w g = absurd (let e = w.kind in cc)
  viewed_ok family (Class k) go run w g = absurd (let e = w.kind in cc)

  field_ok : (field family : ℕ) (v : Value) (go : Value → Act) (run : ℤ → Did) → IsVal i p (kind_of field) v → ((w : Value) → IsVal i p (kind_of field) w → Ok (go w) (run (word w))) → Ok (on_field i field family v go) (on_some Null (plain.field_value i field family (word v)) run)
  field_ok field family v go run a g = at (nat_eq field 4) refl
    where
      at : (b : Bool) → nat_eq field 4 ≡ b → Ok (if b then on_viewed i family v go else go v) (on_some Null (if b then plain.viewed i family (word v) else Some (word v)) run)
      at true q =
          let four : field ≡ 4 = eqb-true field 4 q in
          let Is : ℕ → Value → Type 0 = λ n w. IsVal i p (kind_of n) w in
          viewed_ok family v go run (subst (λ n. Is n v) four a) (λ w u. g w (subst (λ n. Is n w) (sym four) u))
      at false q = g v a

  -- the cell of a field
  cell_is : (view cell : ℕ) (u : IsRef i p (record { view = view; cell = cell })) (s slot : ℕ) (d : IsSlot i u.views.row s slot) → slice_get p (cell + 1 + slot) ≡ Some (Slot (kind_of d.kind))
  cell_is view cell u s slot d =
      hp.plan cell u.group d.group u.first (ap (slice_get i.groups) (sym u.views.same) ∙ d.there) slot d.kind d.is

  -- what it holds
  held_at : (n : ℕ) (k : OperandKind) → slice_get p n ≡ Some (Slot k) → (v : Value) × (slice_get h n ≡ Some (Holds v)) × IsVal i p k v
  held_at n k e =
      let x = pairs_get (CellFits i p) p h n (Slot k) hp.cells e in of x.0 x.1 x.2
    where
      of : (x : Held) → slice_get h n ≡ Some x → CellFits i p (Slot k) x → (v : Value) × (slice_get h n ≡ Some (Holds v)) × IsVal i p k v
      of (Head g) q w = absurd w
      of (Holds v) q w = (v, q, w)

  get_ok : (s : ℕ) → Ready i p f c (op.Get s) ks → Ok (obey i m (op.Get s) f h) (plain.obey i m (op.Get s) PF PH)
  get_ok s r =
      one_ok i p Ok (Some kind.Reference) [] ks f.vals _ _ r.own.suits r.vals (λ k v ys t w n y.
      object_ok i p Ok m h hp v _ _ (as_kind i p kind.Reference k v t w) null_is_ok (λ view cell e u.
      let row = u.views.row in
      some_there i p Ok Stuck (slice_get i.classes view) (slice_get i.classes view) row row _ _ u.views.is u.views.is
      (some_or i p Ok Null (slot_in row s) _ _ null_is_ok (λ slot e2.
      let d = slot_there i view row s slot (row_is i view row (rows view row u.views.is)) e2 in
      let x = held_at (cell + 1 + slot) (kind_of d.kind) (cell_is view cell u s slot d) in
      let x_is : IsVal i p (kind_of d.field) x.0 = subst (λ (k : OperandKind). IsVal i p k x.0) d.same x.2 in
      let there : slice_get PH (cell + 1 + slot) ≡ Some (word x.0) = slice_get-map held_word h (cell + 1 + slot) ∙ ap (option_map held_word) x.1 in
      let gives' : after_it i c (op.Get s) ks ≡ kind_of d.field ∷ drop 1 ks = ap (λ (o : Option OperandKind). list_of o ++ drop 1 ks) (ap (option_map kind_of) d.selector) in
      some_there i p Ok Stuck (slice_get h (cell + 1 + slot)) (slice_get PH (cell + 1 + slot)) (Holds x.0) (word x.0) _ _ x.1 there
      (some_there i p Ok Stuck (slice_get i.fields s) (slice_get i.fields s) d.field d.field _ _ d.selector d.selector
      (field_ok d.field row.family x.0 _ _ x_is (λ z z_is.
      on_val (op.Get s) r (kind_of d.field) (drop 1 ks) z (word z) ys refl gives' z_is y refl)))))))

  put_ok : (s : ℕ) → Ready i p f c (op.Put s) ks → Ok (obey i m (op.Put s) f h) (plain.obey i m (op.Put s) PF PH)
  put_ok s r =
      two_ok i p Ok (field_kind i s) (Some kind.Reference) ks f.vals _ _ r.own.suits r.vals (λ j k v x ys s1 w1 s2 w2 y.
      object_ok i p Ok m h hp v _ _ (as_kind i p kind.Reference j v s1 w1) null_is_ok (λ view cell e u.
      let row = u.views.row in
      some_there i p Ok Stuck (slice_get i.classes view) (slice_get i.classes view) row row _ _ u.views.is u.views.is
      (some_or i p Ok Null (slot_in row s) _ _ null_is_ok (λ slot e2.
      let d = slot_there i view row s slot (row_is i view row (rows view row u.views.is)) e2 in
      let at = cell + 1 + slot in
      let place = cell_is view cell u s slot d in
      let takes' : field_kind i s ≡ Some (kind_of d.field) = ap (option_map kind_of) d.selector in
      let x_is : IsVal i p (kind_of d.field) x = as_kind i p (kind_of d.field) k x (subst (λ (o : Option OperandKind). suits o k ≡ true) takes' s2) w2 in
      let x_is' : IsVal i p (kind_of d.kind) x = subst (λ (k : OperandKind). IsVal i p k x) (sym d.same) x_is in
      let old = held_at at (kind_of d.kind) place in
      let b : at < length h = get_below h at (Holds old.0) old.1 in
      let long : length PH ≡ length h = length-map h held_word in
      let yes : nat_lt at (length PH) ≡ true = grind (arith, nat_tests, long, b) in
      let set_long' : length (slice_set h at (Holds x)) ≡ length h = set_long h at (Holds x) in
      let small' = hp.small in
      let hq : HeapFits i m p (slice_set h at (Holds x)) = record { cells = pairs_set (CellFits i p) p h at (Slot (kind_of d.kind)) (Holds x) hp.cells place x_is'; plan = hp.plan; small = omega arith; bound = hp.bound } in
      let same : plain.next PF (words ys) (map held_word (slice_set h at (Holds x))) ≡ plain.next PF (words ys) (slice_set PH at (word x)) = ap (plain.next PF (words ys)) (map_set held_word h at (Holds x)) in
      some_left Stuck (slice_get h at) (Holds old.0) (λ x'. on_held x' (λ old. next f ys (slice_set h at (Holds x)))) _ old.1
      (subst (λ (b : Bool). Ok (next f ys (slice_set h at (Holds x))) (if b then plain.next PF (words ys) (slice_set PH at (word x)) else Faults Stuck)) (sym yes)
      (on_later (op.Put s) r p f.vars ys (slice_set h at (Holds x)) [] _ (later_refl p) hq refl r.vars y same))))))

  conv_ok : Ready i p f c op.Conv ks → Ok (obey i m op.Conv f h) (plain.obey i m op.Conv PF PH)
  conv_ok r =
      two_ok i p Ok (Some kind.Class) (Some kind.Reference) ks f.vals _ _ r.own.suits r.vals (λ j k v y ys s1 w1 s2 w2 u.
      class_ok i p Ok y _ (λ y. plain.on_row i (plain.class_in y) (λ row. on_some Null (plain.viewed i row.family (word v)) (λ w. plain.next PF (w ∷ words ys) PH))) (as_kind i p kind.Class k y s2 w2) (λ k b.
      row_ok i p Ok k _ _ b (λ row e.
      viewed_ok row.family v _ _ (as_kind i p kind.Reference j v s1 w1) (λ w w_is.
      on_val op.Conv r kind.Reference (drop 2 ks) w (word w) ys refl refl w_is u refl))))

  check_ok : Ready i p f c op.Check ks → Ok (obey i m op.Check f h) (plain.obey i m op.Check PF PH)
  check_ok r =
      one_ok i p Ok (Some kind.Reference) [] ks f.vals _ _ r.own.suits r.vals (λ k v ys s w t u.
      let v_is = as_kind i p kind.Reference k v s w in
      object_ok i p Ok m h hp v _ _ v_is null_is_ok (λ view cell e n. on_val op.Check r kind.Reference (drop 1 ks) v (word v) ys refl refl v_is u refl))

  printt_ok : (t : ℕ) → Ready i p f c (op.Printt t) ks → Ok (obey i m (op.Printt t) f h) (plain.obey i m (op.Printt t) PF PH)
  printt_ok t r =
      let text = get_there i.texts t (ltb-true t (length i.texts) r.own.number) in
      some_there i p Ok Stuck (slice_get i.texts t) (slice_get i.texts t) text.0 text.0 _ _ text.1 text.1 (on_next (op.Printt t) r f.vals (words f.vals) (line_of text.0.bytes) refl r.vals refl)

  ret_ok : Ready i p f c op.Ret ks → Ok (obey i m op.Ret f h) (plain.obey i m op.Ret PF PH)
  ret_ok r = record {
    fits = (subst (λ (o : Option Code). HandsBack i p (code_result o) None) (sym r.is) (nothing_back i p (result_kind c.result) r.own.returns), hp);
    same = refl;
  }

  retv_ok : Ready i p f c op.Retv ks → Ok (obey i m op.Retv f h) (plain.obey i m op.Retv PF PH)
  retv_ok r =
      one_ok i p Ok (result_kind c.result) [] ks f.vals _ _ r.own.suits r.vals (λ k v ys s w t u. record {
        fits = (subst (λ (o : Option Code). HandsBack i p (code_result o) (Some v)) (sym r.is) (hands_back i p (result_kind c.result) k v s r.own.returns w), hp);
        same = refl;
      })

  pub obeyed : (x : Instr) → Ready i p f c x ks → InstrInForm x → Ok (obey i m x f h) (plain.obey i m x PF PH)
  obeyed (op.Int z) r o = on_val (op.Int z) r kind.Int ks (Number z) z f.vals refl refl (record { kind = refl; names = tt }) r.vals refl
  obeyed (op.Bool b) r o = on_val (op.Bool b) r kind.Bool ks (Truth (not (nat_eq b 0))) (pos b) f.vals refl refl (record { kind = refl; names = tt }) r.vals (truth_of b o)
  obeyed op.Null r o = on_val op.Null r kind.Reference ks NoObject (pos 0) f.vals refl refl (record { kind = refl; names = tt }) r.vals refl
  obeyed (op.Cls k) r o = on_val (op.Cls k) r kind.Class ks (Class k) (pos k) f.vals refl refl (record { kind = refl; names = ltb-true k (length i.classes) r.own.number }) r.vals refl
  obeyed (op.Load x) r o = load_ok x r
  obeyed (op.Store x) r o = store_ok x r
  obeyed op.Pop r o = one_ok i p Ok None [] ks f.vals _ _ r.own.suits r.vals (λ k v ys s w t u. on_next op.Pop r ys (words ys) [] refl u refl)
  obeyed op.Add r o = two_numbers op.Add r kind.Int (λ x y. Number (sum_of x y)) r.own.suits refl (λ y z. record { kind = refl; names = tt }) refl
  obeyed op.Sub r o = two_numbers op.Sub r kind.Int (λ x y. Number (difference_of x y)) r.own.suits refl (λ y z. record { kind = refl; names = tt }) refl
  obeyed op.Mul r o = two_numbers op.Mul r kind.Int (λ x y. Number (product_of x y)) r.own.suits refl (λ y z. record { kind = refl; names = tt }) refl
  obeyed op.Div r o = part_two op.Div r quotient_of r.own.suits refl refl
  obeyed op.Rem r o = part_two op.Rem r remainder_of r.own.suits refl refl
  obeyed op.Neg r o = number_of op.Neg r _ _ r.own.suits (λ z ys u. on_val op.Neg r kind.Int (drop 1 ks) (Number (negation_of z)) (negation_of z) ys refl refl (record { kind = refl; names = tt }) u refl)
  obeyed op.Lt r o = two_numbers op.Lt r kind.Bool (λ x y. Truth (int_lt x y)) r.own.suits refl (λ y z. record { kind = refl; names = tt }) refl
  obeyed op.Le r o = two_numbers op.Le r kind.Bool (λ x y. Truth (int_le x y)) r.own.suits refl (λ y z. record { kind = refl; names = tt }) refl
  obeyed op.Gt r o = two_numbers op.Gt r kind.Bool (λ x y. Truth (int_lt y x)) r.own.suits refl (λ y z. record { kind = refl; names = tt }) refl
  obeyed op.Ge r o = two_numbers op.Ge r kind.Bool (λ x y. Truth (int_le y x)) r.own.suits refl (λ y z. record { kind = refl; names = tt }) refl
  obeyed op.Eqi r o = two_numbers op.Eqi r kind.Bool (λ x y. Truth (int_eq x y)) r.own.suits refl (λ y z. record { kind = refl; names = tt }) refl
  obeyed op.Eqb r o = eqb_ok r
  obeyed op.Eqr r o = eqr_ok r
  obeyed op.Not r o = truth_test op.Not r _ _ r.own.suits (λ b ys u. on_val op.Not r kind.Bool (drop 1 ks) (Truth (not b)) _ ys refl refl (record { kind = refl; names = tt }) u (ap (λ b. plain.word_of (not b)) (truth_word b)))
  obeyed (op.Jump t) r o = on_jump (op.Jump t) r t f.vals refl r.vals
  obeyed (op.Jfalse t) r o =
      truth_test (op.Jfalse t) r _ _ r.own.suits (λ b ys u. if_ok i p Ok b (plain.truth (plain.word_of b)) _ _ _ _ (truth_word b) (λ e. on_next (op.Jfalse t) r ys (words ys) [] refl u refl) (λ e. on_jump (op.Jfalse t) r t ys refl u))
  obeyed (op.Jtrue t) r o =
      truth_test (op.Jtrue t) r _ _ r.own.suits (λ b ys u. if_ok i p Ok b (plain.truth (plain.word_of b)) _ _ _ _ (truth_word b) (λ e. on_jump (op.Jtrue t) r t ys refl u) (λ e. on_next (op.Jtrue t) r ys (words ys) [] refl u refl))
  obeyed op.Viewof r o = viewof_ok r
  obeyed (op.Up n) r o = up_ok n r
  obeyed (op.Down name) r o = down_ok name r
  obeyed op.New r o = new_ok r
  obeyed (op.Ctor s) r o = ctor_ok s r
  obeyed (op.Call s) r o = plain_call_ok s r
  obeyed (op.Callat s) r o = callat_ok s r
  obeyed (op.Get s) r o = get_ok s r
  obeyed (op.Put s) r o = put_ok s r
  obeyed op.Conv r o = conv_ok r
  obeyed op.Check r o = check_ok r
  obeyed op.Printi r o = number_of op.Printi r _ _ r.own.suits (λ z ys u. on_next op.Printi r ys (words ys) (number_line z) refl u refl)
  obeyed op.Printb r o =
      truth_test op.Printb r _ _ r.own.suits (λ b ys u. subst (λ (b' : Bool). Ok (Goes (record f { place = f.place + 1; vals = ys }) h (truth_line b)) (plain.next_printing PF (words ys) PH (truth_line b'))) (truth_word b) (on_next op.Printb r ys (words ys) (truth_line b) refl u refl))
  obeyed (op.Printt t) r o = printt_ok t r
  obeyed op.Ret r o = ret_ok r
  obeyed op.Retv r o = retv_ok r
