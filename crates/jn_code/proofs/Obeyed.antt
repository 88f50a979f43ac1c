-- An instruction of a valid image finds what it looks for, and leads to where the kinds are known.
use Rattle.std.proofs.Common.{◌≡◌, refl, sym, ap, ◌∙◌, ℕ, zero, suc, ◌+◌, ◌<◌, ◌≤◌, List, [], ◌∷◌, ◌++◌, length, map, drop, reverse, ℤ, pos, Bool, true, false, not, Option, Some, None, slice_get, slice_set, nat_lt, nat_le, arith, inl, inr, subst}
use Rattle.std.specs.Prelude.{is_some, nat_eq, int_lt, int_le, if◌then◌else◌}
use Rattle.std.specs.Ordering.{int_eq}
use Rattle.std.specs.Option.{option_map, option_and_then}
use Rattle.std.proofs.lemmas.Bool.{ltb-true, leb-true, eqb-true}
use Rattle.std.proofs.lemmas.Bool.Decides.{nat_tests}
use Rattle.std.proofs.lemmas.List.{length-append, append-nil}
use Rattle.jn_steps.specs.Steps.{Goes, Enters, Faults, on_some, on_one, on_two}
use Rattle.jn_steps.specs.Numbers.{sum_of, difference_of, product_of, negation_of, quotient_of, remainder_of, line_of, number_line, truth_line}
use Rattle.jn_code.specs.declared.kind.OperandKind.{OperandKind}
use Rattle.jn_code.specs.declared.kind.OperandKind.TheVariants as kind
use Rattle.jn_code.specs.declared.instr.Instr.{Instr}
use Rattle.jn_code.specs.declared.instr.Instr.TheVariants as op
use Rattle.jn_code.specs.declared.image.Image.{Image}
use Rattle.jn_code.specs.declared.image.Shape.{Shape}
use Rattle.jn_code.specs.declared.image.Group.{Group}
use Rattle.jn_code.specs.declared.image.ClassRow.{ClassRow}
use Rattle.jn_code.specs.declared.image.Code.{Code}
use Rattle.jn_code.specs.Kinds.{kind_of, result_kind, locals_of, local_kind, argument_kinds, arguments_of, result_of, field_kind, each_some, one, list_of, after_it, target_of, goes_on}
use Rattle.jn_code.specs.Rows.{numbered}
use Rattle.jn_code.specs.Valid.{suits, all_suit}
use Rattle.jn_code.specs.Known.{KnownAt, notes_of}
use Rattle.jn_code.specs.Machine.{Null, Zero, Arena, Stuck, Frame, Ref, ref_word, ref_in, object_in, class_in, truth, word_of, ups_of, member_in, code_in, slot_in, other_in, counterpart_of, ref_viewed, viewed_as, viewed, field_value, object_cells, Did, next, jump, waits, on_call, make, construct, obey}
use Rattle.jn_code.proofs.Sound.{get_below, get_there, set_long}
use Rattle.jn_code.specs.Going.{Cell, Slot, Views, IsRef, IsWord, AreWords, CellHolds, HeapOk, code_result}
use Rattle.jn_code.proofs.Words.{Later, later_refl, words_later, pairs_long, pairs_get, pairs_set, ref_in_word, object_plan, plan_grows, heap_made, new_ref}
use Rattle.jn_code.proofs.RowFacts.{RowsOk, RowIs, row_is, numbered_is, map_is, then_is, member_there, ups_there, group_there, IsEntry, code_there, IsSlot, slot_there, other_there}
use Rattle.jn_code.proofs.Frames.{HandsBack, DoesOk, Ready, push, as_kind, some_there, some_or, if_ok, one_ok, two_ok, shape_ok, ref_ok, row_ok, class_below}

drop_nil : {A : Type 0} (n : ℕ) → drop {A = A} n [] ≡ []
drop_nil zero = refl
drop_nil (suc n) = refl

pub drop_one : {A : Type 0} (n : ℕ) (xs : List A) → drop n (drop 1 xs) ≡ drop (suc n) xs
drop_one n [] = drop_nil n
drop_one n (x ∷ xs) = refl

one_drop : {A : Type 0} (n : ℕ) (xs : List A) → drop 1 (drop n xs) ≡ drop (suc n) xs
one_drop zero xs = refl
one_drop (suc n) [] = refl
one_drop (suc n) (x ∷ xs) = one_drop n xs

pub each_long : {A : Type 0} (xs : List A) → length (each_some xs) ≡ length xs
each_long [] = refl
each_long (x ∷ xs) = ap suc (each_long xs)

pub each_both : {A : Type 0} (xs ys : List A) → each_some (xs ++ ys) ≡ each_some xs ++ each_some ys
each_both [] ys = refl
each_both (x ∷ xs) ys = ap (λ zs. Some x ∷ zs) (each_both xs ys)

-- the arguments and the receiver are dropped
pub dropped : (ps js : List OperandKind) → drop 1 (drop (length ps) js) ≡ drop (length (each_some (ps ++ one kind.Reference))) js
dropped ps js =
    let a : length (each_some (ps ++ one kind.Reference)) ≡ length (ps ++ one kind.Reference) = each_long (ps ++ one kind.Reference) in
    let b : length (ps ++ one kind.Reference) ≡ length ps + 1 = length-append ps (one kind.Reference) in
    let c : suc (length ps) ≡ length (each_some (ps ++ one kind.Reference)) = omega arith in
    one_drop (length ps) js ∙ ap (λ n. drop n js) c

hands_back : (i : Image) (p : List Cell) (r : Option OperandKind) (k : OperandKind) (z : ℤ) → suits r k ≡ true → is_some r ≡ true → IsWord i p k z → HandsBack i p r (Some z)
hands_back i p None k z s b w = absurd cc
hands_back i p (Some j) k z s b w = as_kind i p j k z s w

nothing_back : (i : Image) (p : List Cell) (r : Option OperandKind) → not (is_some r) ≡ true → HandsBack i p r None
nothing_back i p None b = tt
nothing_back i p (Some j) b = absurd cc

module _ (i : Image) (m : ℕ) (rows : RowsOk i) (p : List Cell) (f : Frame) (c : Code) (ks : List OperandKind) (h : List ℤ) (hp : HeapOk i m p h) where
  abbrev Ok : Did → Type 0
  Ok = DoesOk i m p f.code

  abbrev Words : List OperandKind → List ℤ → Type 0
  Words = AreWords i p

  zero_is_ok : Ok (Faults Zero)
  zero_is_ok = λ e. cc

  null_is_ok : Ok (Faults Null)
  null_is_ok = λ e. cc

  arena_is_ok : Ok (Faults Arena)
  arena_is_ok = λ e. cc

  -- the next instruction, with these variables, operands and heap
  on_later : (x : Instr) (r : Ready i p f c x ks) (q : List Cell) (vars vals g : List ℤ) (bytes : List ℕ) → Later p q → HeapOk i m q g → goes_on x ≡ true → AreWords i q (locals_of c) vars → AreWords i q (after_it i c x ks) vals → Ok (Goes (record { code = f.code; place = f.place + 1; vars = vars; vals = vals; keeps = f.keeps }) g bytes)
  on_later x r q vars vals g bytes l hq e u v =
      (q, l, hq, record { code = c; is = r.is; ks = after_it i c x ks; known = r.next e; vars = u; vals = v }, refl)

  on_next : (x : Instr) (r : Ready i p f c x ks) (vals : List ℤ) (bytes : List ℕ) → goes_on x ≡ true → Words (after_it i c x ks) vals → Ok (Goes (record { code = f.code; place = f.place + 1; vars = f.vars; vals = vals; keeps = f.keeps }) h bytes)
  on_next x r vals bytes e v = on_later x r p f.vars vals h bytes (later_refl p) hp e r.vars v

  on_jump : (x : Instr) (r : Ready i p f c x ks) (t : ℕ) (vals : List ℤ) → target_of x ≡ Some t → Words (after_it i c x ks) vals → Ok (jump t f vals h)
  on_jump x r t vals e v =
      (p, later_refl p, hp, record { code = c; is = r.is; ks = after_it i c x ks; known = r.target t e; vars = r.vars; vals = v }, refl)

  -- an operator on two operands, whatever they are
  plain_two : (x : Instr) (r : Ready i p f c x ks) (w k : OperandKind) (of : ℤ → ℤ → ℤ) → all_suit (Some w ∷ (Some w ∷ [])) ks ≡ true → goes_on x ≡ true → ((z : ℤ) → IsWord i p k z) → after_it i c x ks ≡ k ∷ drop 2 ks → Ok (on_two Stuck f.vals (λ y z vs. next f (of y z ∷ vs) h))
  plain_two x r w k of s g word e =
      two_ok i p Ok (Some w) (Some w) ks f.vals _ s r.vals (λ j1 k1 y z ys s1 w1 s2 w2 u. on_next x r (of y z ∷ ys) [] g (subst (λ (js : List OperandKind). Words js (of y z ∷ ys)) (sym e) (push i p k (drop 2 ks) (of y z) ys (word (of y z)) u)))

  part_two : (x : Instr) (r : Ready i p f c x ks) (of : ℤ → ℤ → Option ℤ) → all_suit (Some kind.Int ∷ (Some kind.Int ∷ [])) ks ≡ true → goes_on x ≡ true → after_it i c x ks ≡ kind.Int ∷ drop 2 ks → Ok (on_two Stuck f.vals (λ y z vs. on_some Zero (of y z) (λ q. next f (q ∷ vs) h)))
  part_two x r of s g e =
      two_ok i p Ok (Some kind.Int) (Some kind.Int) ks f.vals _ s r.vals (λ j1 k1 y z ys s1 w1 s2 w2 u. some_or i p Ok Zero (of y z) _ zero_is_ok (λ q t. on_next x r (q ∷ ys) [] g (subst (λ (js : List OperandKind). Words js (q ∷ ys)) (sym e) (push i p kind.Int (drop 2 ks) q ys tt u))))

  load_ok : (x : ℕ) → Ready i p f c (op.Load x) ks → Ok (obey i m (op.Load x) f h)
  load_ok x r =
      let b = ltb-true x (length (locals_of c)) r.own.local in
      let k = get_there (locals_of c) x b in
      let z = pairs_get (IsWord i p) (locals_of c) f.vars x k.0 r.vars.are k.1 in
      let w : Words (list_of (local_kind c x) ++ ks) (z.0 ∷ f.vals) =
      subst (λ (o : Option OperandKind). Words (list_of o ++ ks) (z.0 ∷ f.vals)) (sym k.1) (push i p k.0 ks z.0 f.vals z.2 r.vals) in
      some_there i p Ok Stuck (slice_get f.vars x) z.0 _ z.1 (on_next (op.Load x) r (z.0 ∷ f.vals) [] refl w)

  store_ok : (x : ℕ) → Ready i p f c (op.Store x) ks → Ok (obey i m (op.Store x) f h)
  store_ok x r =
      let b : x < length (locals_of c) = ltb-true x (length (locals_of c)) r.own.local in
      let l : length (locals_of c) ≡ length f.vars = pairs_long (IsWord i p) (locals_of c) f.vars r.vars.are in
      let j = get_there (locals_of c) x b in
      one_ok i p Ok (local_kind c x) [] ks f.vals _ r.own.suits r.vals (λ k z ys s w t v.
      let u = as_kind i p j.0 k z (subst (λ (o : Option OperandKind). suits o k ≡ true) j.1 s) w in
      if_ok i p Ok (nat_lt x (length f.vars)) _ _
      (λ e. on_later (op.Store x) r p (slice_set f.vars x z) ys h [] (later_refl p) hp refl (record { are = pairs_set (IsWord i p) (locals_of c) f.vars x j.0 z r.vars.are j.1 u }) v)
      (λ e. absurd (let d : x < length f.vars = omega arith in grind (arith, nat_tests))))

  test_ok : (x : Instr) (r : Ready i p f c x ks) (go : ℤ → List ℤ → Did) → all_suit (Some kind.Bool ∷ []) ks ≡ true → ((z : ℤ) (ys : List ℤ) → Words (drop 1 ks) ys → Ok (go z ys)) → Ok (on_one Stuck f.vals go)
  test_ok x r go s g = one_ok i p Ok (Some kind.Bool) [] ks f.vals go s r.vals (λ k z ys s w t v. g z ys v)

  viewof_ok : Ready i p f c op.Viewof ks → Ok (obey i m op.Viewof f h)
  viewof_ok r =
      one_ok i p Ok (Some kind.Reference) [] ks f.vals _ r.own.suits r.vals (λ k z ys s w t v.
      ref_ok i p Ok m h z _ hp (as_kind i p kind.Reference k z s w) null_is_ok (λ q u e.
      on_next op.Viewof r (pos q.view ∷ ys) [] refl (push i p kind.Class _ (pos q.view) ys (q.view, refl, get_below i.classes q.view u.views.row u.views.is) v)))

  up_ok : (n : ℕ) → Ready i p f c (op.Up n) ks → Ok (obey i m (op.Up n) f h)
  up_ok n r =
      one_ok i p Ok (Some kind.Class) [] ks f.vals _ r.own.suits r.vals (λ k z ys s w t v.
      let b = class_below i p z (as_kind i p kind.Class k z s w) in
      some_or i p Ok Null (ups_of i n (class_in z)) _ null_is_ok (λ u e.
      on_next (op.Up n) r (pos u ∷ ys) [] refl (push i p kind.Class _ (pos u) ys (u, refl, ups_there i n (class_in z) u rows b e) v)))

  down_ok : (name : ℕ) → Ready i p f c (op.Down name) ks → Ok (obey i m (op.Down name) f h)
  down_ok name r =
      one_ok i p Ok (Some kind.Class) [] ks f.vals _ r.own.suits r.vals (λ k z ys s w t v.
      row_ok i p Ok z _ (as_kind i p kind.Class k z s w) (λ row q.
      some_or i p Ok Null (member_in row name) _ null_is_ok (λ u e.
      let d = member_there i (class_in z) row name u (row_is i (class_in z) row (rows (class_in z) row q)) e in
      on_next (op.Down name) r (pos u ∷ ys) [] refl (push i p kind.Class _ (pos u) ys (u, refl, d) v))))

  make_ok : (r : Ready i p f c op.New ks) (k number : ℕ) (g : Group) (vs : List ℤ) → slice_get i.groups number ≡ Some g → Views i k number → Words (drop 1 ks) vs → Ok (make m k (object_cells number g) f vs h)
  make_ok r k number g vs e w v =
      let cells = object_cells number g in
      let l : length (h ++ cells) ≡ length h + length cells = length-append h cells in
      let more = plan_grows p (object_plan number g) in
      let q = p ++ object_plan number g in
      if_ok i p Ok (nat_le (length h + length cells) m) _ _
      (λ b. let d : length h + length cells ≤ m = leb-true (length h + length cells) m b in
      on_later op.New r q f.vars (ref_word k (length h) ∷ vs) (h ++ cells) [] more (heap_made i m p h number g e hp (omega arith)) refl (words_later i p q (locals_of c) f.vars more r.vars) (push i q kind.Reference _ _ vs (new_ref i m p h k number g hp w) (words_later i p q (drop 1 ks) vs more v)))
      (λ b. arena_is_ok)

  new_ok : Ready i p f c op.New ks → Ok (obey i m op.New f h)
  new_ok r =
      one_ok i p Ok (Some kind.Class) [] ks f.vals _ r.own.suits r.vals (λ k z ys s w t v.
      row_ok i p Ok z _ (as_kind i p kind.Class k z s w) (λ row q.
      some_or i p Ok Null (numbered row.group) _ null_is_ok (λ number e.
      let n = numbered_is row.group number e in
      let g = group_there i (class_in z) row (row_is i (class_in z) row (rows (class_in z) row q)) n.1 in
      let d : slice_get i.groups number ≡ Some g.0 = ap (slice_get i.groups) (sym n.0) ∙ g.1 in
      let u : Views i (class_in z) number = record { row = row; is = q; same = n.0; some = subst (λ (k : ℕ). nat_eq k 65535 ≡ false) n.0 n.1 } in
      some_there i p Ok Stuck (slice_get i.groups number) g.0 _ d (make_ok r (class_in z) number g.0 ys d u v))))

  -- the words of a code's parameters
  entry_words : (s b : ℕ) (shape : Shape) (e : IsEntry i s b) (z : ℤ) (args : List ℤ) → slice_get i.methods s ≡ Some shape → IsWord i p kind.Reference z → Words (map kind_of shape.params) args → Words (map kind_of e.code.params) (z ∷ args)
  entry_words s b shape e z args q w v =
      let d : shape ≡ e.shape = let a = e.selector in cc in
      let u : Words (map kind_of (3 ∷ e.shape.params)) (z ∷ args) = push i p kind.Reference _ z args w (subst (λ (x : Shape). Words (map kind_of x.params) args) d v) in
      subst (λ (bs : List ℕ). Words (map kind_of bs) (z ∷ args)) (sym e.params) u

  construct_ok : (s : ℕ) (r : Ready i p f c (op.Ctor s) ks) (shape : Shape) (row : ClassRow) (k : ℕ) (z : ℤ) (args vs : List ℤ) (o : Option ℕ) → slice_get i.methods s ≡ Some shape → RowIs i k row → code_in row s ≡ o → IsWord i p kind.Reference z → Words (map kind_of shape.params) args → Words (after_it i c (op.Ctor s) ks) (z ∷ vs) → Ok (construct o z args f vs h)
  construct_ok s r shape row k z args vs None q ok e w a v = on_next (op.Ctor s) r (z ∷ vs) [] refl v
  construct_ok s r shape row k z args vs (Some b) q ok e w a v =
      let d = code_there i k row s b ok e in
      (d.code, d.is, entry_words s b shape d z args q w a, record { code = c; is = r.is; ks = after_it i c (op.Ctor s) ks; known = r.next refl; vars = r.vars; vals = v }, hp, refl)

  ctor_ok : (s : ℕ) → Ready i p f c (op.Ctor s) ks → Ok (obey i m (op.Ctor s) f h)
  ctor_ok s r =
      let shape = get_there i.methods s (ltb-true s (length i.methods) r.own.number) in
      let ps = reverse (map kind_of shape.0.params) in
      let is : arguments_of i s ≡ ps = ap argument_kinds shape.1 in
      let nil : each_some (arguments_of i s) ≡ each_some ps ++ [] = ap each_some is ∙ sym (append-nil (each_some ps)) in
      let long : suc (length ps) ≡ suc (length (each_some (arguments_of i s))) = ap suc (sym (each_long ps) ∙ ap (λ (qs : List OperandKind). length (each_some qs)) (sym is)) in
      one_ok i p Ok (Some kind.Reference) (each_some (arguments_of i s)) ks f.vals _ r.own.suits r.vals (λ k z below t w u v.
      let z_is = as_kind i p kind.Reference k z t w in
      some_there i p Ok Stuck (slice_get i.methods s) shape.0 _ shape.1
      (shape_ok i p Ok shape.0 [] (drop 1 ks) below _ (subst (λ (ws : List (Option OperandKind)). all_suit ws (drop 1 ks) ≡ true) nil u) v (λ args vs a b d.
      ref_ok i p Ok m h z _ hp z_is null_is_ok (λ q n e.
      let left : drop (length ps) (drop 1 ks) ≡ drop (suc (length (each_some (arguments_of i s)))) ks = drop_one (length ps) ks ∙ ap (λ n. drop n ks) long in
      let vals : Words (after_it i c (op.Ctor s) ks) (z ∷ vs) = push i p kind.Reference _ z vs z_is (subst (λ (js : List OperandKind). Words js vs) left d) in
      some_there i p Ok Stuck (slice_get i.classes q.view) n.views.row _ n.views.is
      (construct_ok s r shape.0 n.views.row q.view z args vs (code_in n.views.row s) shape.1 (row_is i q.view n.views.row (rows q.view n.views.row n.views.is)) refl z_is a vals)))))

  -- the arguments of a method, and the receiver below them
  call_ok : (s : ℕ) (shape : Shape) (js : List OperandKind) (vals : List ℤ) (go : List ℤ → ℤ → List ℤ → Did) → slice_get i.methods s ≡ Some shape → all_suit (each_some (arguments_of i s ++ one kind.Reference)) js ≡ true → Words js vals → ((args : List ℤ) (z : ℤ) (vs : List ℤ) → Words (map kind_of shape.params) args → IsWord i p kind.Reference z → Words (drop (length (each_some (arguments_of i s ++ one kind.Reference))) js) vs → Ok (go args z vs)) → Ok (on_call i s vals go)
  call_ok s shape js vals go e t v g =
      let ps = reverse (map kind_of shape.params) in
      let is : arguments_of i s ≡ ps = ap argument_kinds e in
      let both : each_some (arguments_of i s ++ one kind.Reference) ≡ each_some ps ++ one (Some kind.Reference) = ap (λ (qs : List OperandKind). each_some (qs ++ one kind.Reference)) is ∙ each_both ps (one kind.Reference) in
      some_there i p Ok Stuck (slice_get i.methods s) shape _ e
      (shape_ok i p Ok shape (one (Some kind.Reference)) js vals _ (subst (λ (ws : List (Option OperandKind)). all_suit ws js ≡ true) both t) v (λ args below a b d.
      one_ok i p Ok (Some kind.Reference) [] (drop (length ps) js) below _ b d (λ k z vs s2 w u y.
      let left : drop 1 (drop (length ps) js) ≡ drop (length (each_some (arguments_of i s ++ one kind.Reference))) js =
      dropped ps js ∙ ap (λ (qs : List OperandKind). drop (length (each_some (qs ++ one kind.Reference))) js) (sym is) in
      g args z vs a (as_kind i p kind.Reference k z s2 w) (subst (λ (ls : List OperandKind). Words ls vs) left y))))

  -- a call that is made
  enters_ok : (x : Instr) (r : Ready i p f c x ks) (s b k : ℕ) (row : ClassRow) (shape : Shape) (z : ℤ) (args vs : List ℤ) (rest : List OperandKind) → slice_get i.methods s ≡ Some shape → RowIs i k row → code_in row s ≡ Some b → IsWord i p kind.Reference z → Words (map kind_of shape.params) args → goes_on x ≡ true → after_it i c x ks ≡ list_of (result_of i s) ++ rest → Words rest vs → Ok (Enters b (z ∷ args) (waits true f vs) h)
  enters_ok x r s b k row shape z args vs rest q ok e w a g after' v =
      let d = code_there i k row s b ok e in
      let one' : result_of i s ≡ result_kind d.code.result =
      ap (option_and_then (λ (t : Shape). result_kind t.result)) d.selector ∙ ap result_kind (sym d.result) in
      let known : KnownAt (notes_of i c) (f.place + 1) (list_of (result_kind d.code.result) ++ rest) =
      subst (λ (o : Option OperandKind). KnownAt (notes_of i c) (f.place + 1) (list_of o ++ rest)) one' (subst (λ (js : List OperandKind). KnownAt (notes_of i c) (f.place + 1) js) after' (r.next g)) in
      (d.code, d.is, entry_words s b shape d z args q w a, record { code = c; is = r.is; ks = rest; known = known; vars = r.vars; vals = v }, hp, refl)

  plain_call_ok : (s : ℕ) → Ready i p f c (op.Call s) ks → Ok (obey i m (op.Call s) f h)
  plain_call_ok s r =
      let shape = get_there i.methods s (ltb-true s (length i.methods) r.own.number) in
      call_ok s shape.0 ks f.vals _ shape.1 r.own.suits r.vals (λ args z vs a w v.
      ref_ok i p Ok m h z _ hp w null_is_ok (λ q n e.
      some_there i p Ok Stuck (slice_get i.classes q.view) n.views.row _ n.views.is
      (some_or i p Ok Null (code_in n.views.row s) _ null_is_ok (λ b t.
      enters_ok (op.Call s) r s b q.view n.views.row shape.0 z args vs (drop (length (each_some (arguments_of i s ++ one kind.Reference))) ks) shape.1 (row_is i q.view n.views.row (rows q.view n.views.row n.views.is)) t w a refl refl v))))

  callat_ok : (s : ℕ) → Ready i p f c (op.Callat s) ks → Ok (obey i m (op.Callat s) f h)
  callat_ok s r =
      let shape = get_there i.methods s (ltb-true s (length i.methods) r.own.number) in
      let n = length (each_some (arguments_of i s ++ one kind.Reference)) in
      one_ok i p Ok (Some kind.Class) (each_some (arguments_of i s ++ one kind.Reference)) ks f.vals _ r.own.suits r.vals (λ k y below s1 y_is t v.
      call_ok s shape.0 (drop 1 ks) below _ shape.1 t v (λ args z vs a w v.
      ref_ok i p Ok m h z _ hp w null_is_ok (λ q u e.
      row_ok i p Ok y _ (as_kind i p kind.Class k y s1 y_is) (λ row d.
      some_or i p Ok Null (code_in row s) _ null_is_ok (λ b t2.
      enters_ok (op.Callat s) r s b (class_in y) row shape.0 z args vs (drop (suc n) ks) shape.1 (row_is i (class_in y) row (rows (class_in y) row d)) t2 w a refl refl (subst (λ (js : List OperandKind). Words js vs) (drop_one n ks) v))))))

  -- a reference viewed in a family
  other_ok : (family : ℕ) (q : Ref) (u : IsRef i p q) (k : ℕ) → counterpart_of q.view u.views.row family ≡ Some k → IsWord i p kind.Reference (ref_word k q.cell)
  other_ok family q u k e = at (nat_eq u.views.row.family family) e
    where
      at : (b : Bool) → if◌then◌else◌ {A = Option ℕ} b (Some q.view) (other_in u.views.row family) ≡ Some k → IsWord i p kind.Reference (ref_word k q.cell)
      at true e =
          let d : q.view ≡ k = cc in
          inr (record { view = k; cell = q.cell }, record { group = u.group; views = subst (λ (k : ℕ). Views i k u.group) d u.views; first = u.first }, refl)
      at false e =
          let o = other_there i q.view u.views.row family k (row_is i q.view u.views.row (rows q.view u.views.row u.views.is)) e in
          inr (record { view = k; cell = q.cell }, record { group = u.group; views = record { row = o.row; is = o.is; same = o.same ∙ u.views.same; some = u.views.some }; first = u.first }, refl)

  ref_viewed_ok : (family : ℕ) (q : Ref) (u : IsRef i p q) (z : ℤ) → ref_viewed i family q ≡ Some z → IsWord i p kind.Reference z
  ref_viewed_ok family q u z e =
      let a = then_is _ (slice_get i.classes q.view) z e in
      let d : a.0 ≡ u.views.row = let b = u.views.is in let b' = a.1 in cc in
      let k = map_is _ (counterpart_of q.view a.0 family) z a.2 in
      let g : counterpart_of q.view u.views.row family ≡ Some k.0 = ap (λ (row : ClassRow). counterpart_of q.view row family) (sym d) ∙ k.1 in
      subst (λ (z : ℤ). IsWord i p kind.Reference z) k.2 (other_ok family q u k.0 g)

  viewed_ok : (family : ℕ) (z w : ℤ) → IsWord i p kind.Reference z → viewed i family z ≡ Some w → IsWord i p kind.Reference w
  viewed_ok family z w (inl a) e =
      let b : viewed i family (pos 0) ≡ Some w = ap (viewed i family) (sym a) ∙ e in
      let d : pos 0 ≡ w = cc in subst (λ (z : ℤ). IsWord i p kind.Reference z) d (inl refl)
  viewed_ok family z w (inr a) e =
      let l = pairs_long (CellHolds i p) p h hp.cells in
      let b = get_below p a.0.cell _ a.1.first in
      let s = hp.small in
      let t = hp.bound in
      let low : a.0.cell < 4294967296 = omega arith in
      let d : ref_in z ≡ Some a.0 = ap ref_in a.2 ∙ ref_in_word a.0 low in
      ref_viewed_ok family a.0 a.1 w (ap (viewed_as i family z) (sym d) ∙ e)

  field_ok : (field family : ℕ) (z w : ℤ) → IsWord i p (kind_of field) z → field_value i field family z ≡ Some w → IsWord i p (kind_of field) w
  field_ok field family z w a e = at (nat_eq field 4) refl e
    where
      at : (b : Bool) → nat_eq field 4 ≡ b → if◌then◌else◌ {A = Option ℤ} b (viewed i family z) (Some z) ≡ Some w → IsWord i p (kind_of field) w
      at true q e =
          let four : 4 ≡ field = sym (eqb-true field 4 q) in
          let a' : IsWord i p (kind_of 4) z = subst (λ (n : ℕ). IsWord i p (kind_of n) z) (sym four) a in
          let b : IsWord i p (kind_of 4) w = viewed_ok family z w a' e in
          subst (λ (n : ℕ). IsWord i p (kind_of n) w) four b
      at false q e = let d : z ≡ w = cc in subst (λ (z : ℤ). IsWord i p (kind_of field) z) d a

  -- the cell of a field
  pub cell_is : (q : Ref) (u : IsRef i p q) (s slot : ℕ) (d : IsSlot i u.views.row s slot) → slice_get p (q.cell + 1 + slot) ≡ Some (Slot (kind_of d.kind))
  cell_is q u s slot d =
      hp.plan q.cell u.group d.group u.first (ap (slice_get i.groups) (sym u.views.same) ∙ d.there) slot d.kind d.is

  get_ok : (s : ℕ) → Ready i p f c (op.Get s) ks → Ok (obey i m (op.Get s) f h)
  get_ok s r =
      one_ok i p Ok (Some kind.Reference) [] ks f.vals _ r.own.suits r.vals (λ k z ys t w n v.
      ref_ok i p Ok m h z _ hp (as_kind i p kind.Reference k z t w) null_is_ok (λ q u e.
      let row = u.views.row in
      some_there i p Ok Stuck (slice_get i.classes q.view) row _ u.views.is
      (some_or i p Ok Null (slot_in row s) _ null_is_ok (λ slot e2.
      let d = slot_there i q.view row s slot (row_is i q.view row (rows q.view row u.views.is)) e2 in
      let x = pairs_get (CellHolds i p) p h (q.cell + 1 + slot) (Slot (kind_of d.kind)) hp.cells (cell_is q u s slot d) in
      let x_is : IsWord i p (kind_of d.field) x.0 = subst (λ (k : OperandKind). IsWord i p k x.0) d.same x.2 in
      let gives' : field_kind i s ≡ Some (kind_of d.field) = ap (option_map kind_of) d.selector in
      some_there i p Ok Stuck (slice_get h (q.cell + 1 + slot)) x.0 _ x.1
      (some_there i p Ok Stuck (slice_get i.fields s) d.field _ d.selector
      (some_or i p Ok Null (field_value i d.field row.family x.0) _ null_is_ok (λ y e3.
      on_next (op.Get s) r (y ∷ ys) [] refl (subst (λ (o : Option OperandKind). Words (list_of o ++ drop 1 ks) (y ∷ ys)) (sym gives') (push i p (kind_of d.field) (drop 1 ks) y ys (field_ok d.field row.family x.0 y x_is e3) v)))))))))

  put_ok : (s : ℕ) → Ready i p f c (op.Put s) ks → Ok (obey i m (op.Put s) f h)
  put_ok s r =
      two_ok i p Ok (field_kind i s) (Some kind.Reference) ks f.vals _ r.own.suits r.vals (λ j k z x ys s1 w1 s2 w2 v.
      ref_ok i p Ok m h z _ hp (as_kind i p kind.Reference j z s1 w1) null_is_ok (λ q u e.
      let row = u.views.row in
      some_there i p Ok Stuck (slice_get i.classes q.view) row _ u.views.is
      (some_or i p Ok Null (slot_in row s) _ null_is_ok (λ slot e2.
      let d = slot_there i q.view row s slot (row_is i q.view row (rows q.view row u.views.is)) e2 in
      let at = q.cell + 1 + slot in
      let cell = cell_is q u s slot d in
      let takes' : field_kind i s ≡ Some (kind_of d.field) = ap (option_map kind_of) d.selector in
      let x_is : IsWord i p (kind_of d.field) x = as_kind i p (kind_of d.field) k x (subst (λ (o : Option OperandKind). suits o k ≡ true) takes' s2) w2 in
      let x_is' : IsWord i p (kind_of d.kind) x = subst (λ (k : OperandKind). IsWord i p k x) (sym d.same) x_is in
      let l : length p ≡ length h = pairs_long (CellHolds i p) p h hp.cells in
      let b : at < length p = get_below p at _ cell in
      let set_long' : length (slice_set h at x) ≡ length h = set_long h at x in
      let small' = hp.small in
      let hq : HeapOk i m p (slice_set h at x) = record { cells = pairs_set (CellHolds i p) p h at (Slot (kind_of d.kind)) x hp.cells cell x_is'; plan = hp.plan; small = omega arith; bound = hp.bound } in
      if_ok i p Ok (nat_lt at (length h)) _ _
      (λ y. on_later (op.Put s) r p f.vars ys (slice_set h at x) [] (later_refl p) hq refl r.vars v)
      (λ y. absurd (let b' : at < length h = omega arith in grind (arith, nat_tests)))))))

  conv_ok : Ready i p f c op.Conv ks → Ok (obey i m op.Conv f h)
  conv_ok r =
      two_ok i p Ok (Some kind.Class) (Some kind.Reference) ks f.vals _ r.own.suits r.vals (λ j k z y ys s1 w1 s2 w2 v.
      row_ok i p Ok y _ (as_kind i p kind.Class k y s2 w2) (λ row e.
      some_or i p Ok Null (viewed i row.family z) _ null_is_ok (λ w e2.
      on_next op.Conv r (w ∷ ys) [] refl (push i p kind.Reference _ w ys (viewed_ok row.family z w (as_kind i p kind.Reference j z s1 w1) e2) v))))

  check_ok : Ready i p f c op.Check ks → Ok (obey i m op.Check f h)
  check_ok r =
      one_ok i p Ok (Some kind.Reference) [] ks f.vals _ r.own.suits r.vals (λ k z ys s w t v.
      let z_is = as_kind i p kind.Reference k z s w in
      ref_ok i p Ok m h z _ hp z_is null_is_ok (λ q u e. on_next op.Check r (z ∷ ys) [] refl (push i p kind.Reference _ z ys z_is v)))

  printt_ok : (t : ℕ) → Ready i p f c (op.Printt t) ks → Ok (obey i m (op.Printt t) f h)
  printt_ok t r =
      let text = get_there i.texts t (ltb-true t (length i.texts) r.own.number) in
      some_there i p Ok Stuck (slice_get i.texts t) text.0 _ text.1 (on_next (op.Printt t) r f.vals (line_of text.0.bytes) refl r.vals)

  ret_ok : Ready i p f c op.Ret ks → Ok (obey i m op.Ret f h)
  ret_ok r =
      (subst (λ (o : Option Code). HandsBack i p (code_result o) None) (sym r.is) (nothing_back i p (result_kind c.result) r.own.returns), hp)

  retv_ok : Ready i p f c op.Retv ks → Ok (obey i m op.Retv f h)
  retv_ok r =
      one_ok i p Ok (result_kind c.result) [] ks f.vals _ r.own.suits r.vals (λ k z ys s w t v.
      (subst (λ (o : Option Code). HandsBack i p (code_result o) (Some z)) (sym r.is) (hands_back i p (result_kind c.result) k z s r.own.returns w), hp))

  pub obeyed : (x : Instr) → Ready i p f c x ks → Ok (obey i m x f h)
  obeyed (op.Int z) r = on_next (op.Int z) r (z ∷ f.vals) [] refl (push i p kind.Int ks z f.vals tt r.vals)
  obeyed (op.Bool b) r = on_next (op.Bool b) r (pos b ∷ f.vals) [] refl (push i p kind.Bool ks (pos b) f.vals tt r.vals)
  obeyed op.Null r = on_next op.Null r (pos 0 ∷ f.vals) [] refl (push i p kind.Reference ks (pos 0) f.vals (inl refl) r.vals)
  obeyed (op.Cls k) r =
      on_next (op.Cls k) r (pos k ∷ f.vals) [] refl (push i p kind.Class ks (pos k) f.vals (k, refl, ltb-true k (length i.classes) r.own.number) r.vals)
  obeyed (op.Load x) r = load_ok x r
  obeyed (op.Store x) r = store_ok x r
  obeyed op.Pop r = one_ok i p Ok None [] ks f.vals _ r.own.suits r.vals (λ k z ys s w t v. on_next op.Pop r ys [] refl v)
  obeyed op.Add r = plain_two op.Add r kind.Int kind.Int sum_of r.own.suits refl (λ z. tt) refl
  obeyed op.Sub r = plain_two op.Sub r kind.Int kind.Int difference_of r.own.suits refl (λ z. tt) refl
  obeyed op.Mul r = plain_two op.Mul r kind.Int kind.Int product_of r.own.suits refl (λ z. tt) refl
  obeyed op.Div r = part_two op.Div r quotient_of r.own.suits refl refl
  obeyed op.Rem r = part_two op.Rem r remainder_of r.own.suits refl refl
  obeyed op.Neg r =
      one_ok i p Ok (Some kind.Int) [] ks f.vals _ r.own.suits r.vals (λ k z ys s w t v. on_next op.Neg r (negation_of z ∷ ys) [] refl (push i p kind.Int _ _ ys tt v))
  obeyed op.Lt r = plain_two op.Lt r kind.Int kind.Bool (λ x y. word_of (int_lt x y)) r.own.suits refl (λ z. tt) refl
  obeyed op.Le r = plain_two op.Le r kind.Int kind.Bool (λ x y. word_of (int_le x y)) r.own.suits refl (λ z. tt) refl
  obeyed op.Gt r = plain_two op.Gt r kind.Int kind.Bool (λ x y. word_of (int_lt y x)) r.own.suits refl (λ z. tt) refl
  obeyed op.Ge r = plain_two op.Ge r kind.Int kind.Bool (λ x y. word_of (int_le y x)) r.own.suits refl (λ z. tt) refl
  obeyed op.Eqi r = plain_two op.Eqi r kind.Int kind.Bool (λ x y. word_of (int_eq x y)) r.own.suits refl (λ z. tt) refl
  obeyed op.Eqb r = plain_two op.Eqb r kind.Bool kind.Bool (λ x y. word_of (int_eq x y)) r.own.suits refl (λ z. tt) refl
  obeyed op.Eqr r = plain_two op.Eqr r kind.Reference kind.Bool (λ x y. word_of (nat_eq (object_in x) (object_in y))) r.own.suits refl (λ z. tt) refl
  obeyed op.Not r = test_ok op.Not r _ r.own.suits (λ z ys v. on_next op.Not r (word_of (not (truth z)) ∷ ys) [] refl (push i p kind.Bool _ _ ys tt v))
  obeyed (op.Jump t) r = on_jump (op.Jump t) r t f.vals refl r.vals
  obeyed (op.Jfalse t) r =
      test_ok (op.Jfalse t) r _ r.own.suits (λ z ys v. if_ok i p Ok (truth z) _ _ (λ e. on_next (op.Jfalse t) r ys [] refl v) (λ e. on_jump (op.Jfalse t) r t ys refl v))
  obeyed (op.Jtrue t) r =
      test_ok (op.Jtrue t) r _ r.own.suits (λ z ys v. if_ok i p Ok (truth z) _ _ (λ e. on_jump (op.Jtrue t) r t ys refl v) (λ e. on_next (op.Jtrue t) r ys [] refl v))
  obeyed op.Viewof r = viewof_ok r
  obeyed (op.Up n) r = up_ok n r
  obeyed (op.Down name) r = down_ok name r
  obeyed op.New r = new_ok r
  obeyed (op.Ctor s) r = ctor_ok s r
  obeyed (op.Call s) r = plain_call_ok s r
  obeyed (op.Callat s) r = callat_ok s r
  obeyed (op.Get s) r = get_ok s r
  obeyed (op.Put s) r = put_ok s r
  obeyed op.Conv r = conv_ok r
  obeyed op.Check r = check_ok r
  obeyed op.Printi r =
      one_ok i p Ok (Some kind.Int) [] ks f.vals _ r.own.suits r.vals (λ k z ys s w t v. on_next op.Printi r ys (number_line z) refl v)
  obeyed op.Printb r = test_ok op.Printb r _ r.own.suits (λ z ys v. on_next op.Printb r ys (truth_line (truth z)) refl v)
  obeyed (op.Printt t) r = printt_ok t r
  obeyed op.Ret r = ret_ok r
  obeyed op.Retv r = retv_ok r
