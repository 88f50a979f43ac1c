-- An instruction of a valid image finds what it wants.
use Rattle.std.proofs.Common.{◌≡◌, refl, sym, ap, ◌∙◌, ℕ, zero, suc, ◌+◌, ◌<◌, ◌≤◌, List, [], ◌∷◌, ◌++◌, length, map, drop, ℤ, pos, true, Option, Some, None, slice_get, nat_lt, arith, inl, inr, subst}
use Rattle.std.proofs.lemmas.Bool.{ltb-true}
use Rattle.std.proofs.lemmas.List.{length-reverse, length-map, length-append}
use Rattle.jn_code.specs.declared.kind.OperandKind.{OperandKind}
use Rattle.jn_code.specs.declared.kind.OperandKind.TheVariants as kind
use Rattle.jn_code.specs.declared.instr.Instr.{Instr}
use Rattle.jn_code.specs.declared.instr.Instr.TheVariants as op
use Rattle.jn_code.specs.declared.image.Image.{Image}
use Rattle.jn_code.specs.declared.image.Shape.{Shape}
use Rattle.jn_code.specs.declared.image.ClassRow.{ClassRow}
use Rattle.jn_code.specs.declared.image.Code.{Code}
use Rattle.jn_code.specs.Kinds.{kind_of, locals_of, local_kind, argument_kinds, arguments_of, field_kind, each_some, one, list_of}
use Rattle.jn_code.specs.Valid.{suits, all_suit}
use Rattle.jn_code.specs.Machine.{Ref, ref_in, class_in, slot_in}
use Rattle.jn_code.proofs.Sound.{both_left, both_right, kind_same, get_below, get_there}
use Rattle.jn_code.specs.Going.{Cell, IsRef, IsWord, Pairs, CellHolds, HeapOk}
use Rattle.jn_code.proofs.Words.{pairs_long, pairs_get, ref_in_word}
use Rattle.jn_code.proofs.RowFacts.{RowsOk, row_is, numbered_is, group_there, slot_there}
use Rattle.jn_code.proofs.Frames.{Ready, as_kind, class_below}
use Rattle.jn_code.proofs.Obeyed.{cell_is}
use Rattle.jn_machine.specs.declared.frame.Frame.{Frame}
use Rattle.jn_machine.specs.Acts.{frame_of}
use Rattle.jn_machine.specs.Needs.{OnTop, Below, IsClass, HasGroup, Reaches}
use Rattle.jn_machine.specs.Calls.{HasArgs, IsView, HasReceiver}
use Rattle.jn_machine.specs.Wants.{Wants}

each_long : {A : Type 0} (xs : List A) → length (each_some xs) ≡ length xs
each_long [] = refl
each_long (x ∷ xs) = ap suc (each_long xs)

list_long : (k : OperandKind) (o : Option OperandKind) (ks : List OperandKind) → o ≡ Some k → length (list_of o ++ ks) ≡ suc (length ks)
list_long k None ks e = absurd cc
list_long k (Some j) ks e = refl

-- what has to be at a place is there
suit_at : (ws : List (Option OperandKind)) (ks : List OperandKind) (n : ℕ) (w : OperandKind) → all_suit ws ks ≡ true → slice_get ws n ≡ Some (Some w) → slice_get ks n ≡ Some w
suit_at [] ks n w e q = absurd cc
suit_at (v ∷ ws) [] n w e q = absurd cc
suit_at (v ∷ ws) (k ∷ ks) zero w e q =
    let v_is : v ≡ Some w = cc in
    let s : suits (Some w) k ≡ true = subst (λ (v : Option OperandKind). suits v k ≡ true) v_is (both_left (suits v k) (all_suit ws ks) e) in
    ap Some (sym (kind_same w k s))
suit_at (v ∷ ws) (k ∷ ks) (suc n) w e q = suit_at ws ks n w (both_right (suits v k) (all_suit ws ks) e) q

last_of : (ps : List OperandKind) (k : OperandKind) → slice_get (each_some (ps ++ one k)) (length ps) ≡ Some (Some k)
last_of [] k = refl
last_of (p ∷ ps) k = last_of ps k

arguments_long : (i : Image) (s : ℕ) (m : Shape) → slice_get i.methods s ≡ Some m → length (arguments_of i s) ≡ length m.params
arguments_long i s m e =
    ap (λ (o : Option Shape). length (argument_kinds o)) e ∙ (length-reverse (map kind_of m.params) ∙ length-map m.params kind_of)

module _ (i : Image) (p : List Cell) where
  top_is : (P : ℤ → Type 0) (w : OperandKind) (ws : List (Option OperandKind)) (ks : List OperandKind) (zs : List ℤ) → all_suit (Some w ∷ ws) ks ≡ true → Pairs (IsWord i p) ks zs → ((z : ℤ) → IsWord i p w z → P z) → OnTop P zs
  top_is P w ws [] zs e a f = absurd cc
  top_is P w ws (k ∷ ks) [] e a f = absurd a
  top_is P w ws (k ∷ ks) (z ∷ zs) e a f = f z (as_kind i p w k z (both_left (suits (Some w) k) (all_suit ws ks) e) a.0)

  below_is : (P : ℤ → Type 0) (v : Option OperandKind) (w : OperandKind) (ks : List OperandKind) (zs : List ℤ) → all_suit (v ∷ (Some w ∷ [])) ks ≡ true → Pairs (IsWord i p) ks zs → ((z : ℤ) → IsWord i p w z → P z) → Below P zs
  below_is P v w [] zs e a f = absurd cc
  below_is P v w (k ∷ ks) [] e a f = absurd a
  below_is P v w (k ∷ ks) (z ∷ zs) e a f = top_is P w [] ks zs (both_right (suits v k) (all_suit (Some w ∷ []) ks) e) a.1 f

  module _ (m : ℕ) (rows : RowsOk i) (h : List ℤ) (hp : HeapOk i m p h) where
    -- a reference that is there
    seen : (z : ℤ) (r : Ref) → IsWord i p kind.Reference z → ref_in z ≡ Some r → IsRef i p r
    seen z r (inl a) e = absurd (let b : ref_in (pos 0) ≡ Some r = ap ref_in (sym a) ∙ e in cc)
    seen z r (inr a) e =
        let l = pairs_long (CellHolds i p) p h hp.cells in
        let b = get_below p a.0.cell _ a.1.first in
        let s = hp.small in
        let t = hp.bound in
        let low : a.0.cell < 4294967296 = omega arith in
        let d : ref_in z ≡ Some a.0 = ap ref_in a.2 ∙ ref_in_word a.0 low in
        let q : a.0 ≡ r = cc in
        subst (λ (r : Ref). IsRef i p r) q a.1

    view_is : (z : ℤ) → IsWord i p kind.Reference z → IsView i z
    view_is z w = record { class = λ r e. let u = seen z r w e in get_below i.classes r.view u.views.row u.views.is }

    reaches : (s : ℕ) (f : Frame) (c : Code) (ks : List OperandKind) (z : ℤ) → IsWord i p kind.Reference z → Reaches i h s z
    reaches s f c ks z w = record {
      class = λ r e. let u = seen z r w e in get_below i.classes r.view u.views.row u.views.is;
      cell = λ r row slot e q t.
          let u = seen z r w e in
          let same : row ≡ u.views.row = let v = u.views.is in cc in
          let t' : slot_in u.views.row s ≡ Some slot = ap (λ (row : ClassRow). slot_in row s) (sym same) ∙ t in
          let d = slot_there i r.view u.views.row s slot (row_is i r.view u.views.row (rows r.view u.views.row u.views.is)) t' in
          let b = get_below p (r.cell + 1 + slot) _ (cell_is i m rows p (frame_of f) c ks h hp r u s slot d) in
          let l = pairs_long (CellHolds i p) p h hp.cells in
          omega arith;
    }

    has_group : (z : ℤ) → IsWord i p kind.Class z → HasGroup i z
    has_group z w = record {
      class = class_below i p z w;
      group = λ row n e q.
          let a = numbered_is row.group n q in
          let g = group_there i (class_in z) row (row_is i (class_in z) row (rows (class_in z) row e)) a.1 in
          let b = get_below i.groups row.group g.0 g.1 in
          let d = a.0 in
          omega arith;
    }

    receiver_is : (s : ℕ) (ks : List OperandKind) (zs : List ℤ) → all_suit (each_some (arguments_of i s ++ one kind.Reference)) ks ≡ true → Pairs (IsWord i p) ks zs → HasReceiver i s zs
    receiver_is s ks zs e a = record {
      view = λ shape z q t.
          let k = suit_at (each_some (arguments_of i s ++ one kind.Reference)) ks (length (arguments_of i s)) kind.Reference e (last_of (arguments_of i s) kind.Reference) in
          let k' : slice_get ks (length shape.params) ≡ Some kind.Reference = ap (slice_get ks) (sym (arguments_long i s shape q)) ∙ k in
          let y = pairs_get (IsWord i p) ks zs (length shape.params) kind.Reference a k' in
          let same : y.0 ≡ z = let b = y.1 in cc in
          view_is z (subst (λ (z : ℤ). IsWord i p kind.Reference z) same y.2);
    }

drop_one_long : {A : Type 0} (xs : List A) (n : ℕ) → suc n ≤ length xs → n ≤ length (drop 1 xs)
drop_one_long [] n h = omega arith
drop_one_long (x ∷ xs) n h = omega arith

-- the selector is there, with the arguments
args_are_there : (i : Image) (s below : ℕ) (zs : List ℤ) → nat_lt s (length i.methods) ≡ true → ((m : Shape) → slice_get i.methods s ≡ Some m → length m.params + below ≤ length zs) → HasArgs i s below zs
args_are_there i s below zs e f = record { selector = ltb-true s (length i.methods) e; many = f }

each_args : (i : Image) (s : ℕ) (m : Shape) → slice_get i.methods s ≡ Some m → length (each_some (arguments_of i s ++ one kind.Reference)) ≡ length m.params + 1
each_args i s m e =
    each_long (arguments_of i s ++ one kind.Reference) ∙ (length-append (arguments_of i s) (one kind.Reference) ∙ ap (λ n. n + 1) (arguments_long i s m e))

drop_pairs : {A : Type 0} (R : A → ℤ → Type 0) (ks : List A) (zs : List ℤ) → Pairs R ks zs → Pairs R (drop 1 ks) (drop 1 zs)
drop_pairs R [] [] a = a
drop_pairs R [] (z ∷ zs) a = absurd a
drop_pairs R (k ∷ ks) [] a = absurd a
drop_pairs R (k ∷ ks) (z ∷ zs) a = a.1

suit_rest : (w : Option OperandKind) (ws : List (Option OperandKind)) (ks : List OperandKind) → all_suit (w ∷ ws) ks ≡ true → all_suit ws (drop 1 ks) ≡ true
suit_rest w ws [] e = absurd cc
suit_rest w ws (k ∷ ks) e = both_right (suits w k) (all_suit ws ks) e

module _ (i : Image) (m : ℕ) (p : List Cell) (rows : RowsOk i) (h : List ℤ) (hp : HeapOk i m p h) (f : Frame) (c : Code) (ks : List OperandKind) (long : length ks ≡ length f.vals.words) (low : length ks ≤ f.vals.limit) (high : c.stack ≤ f.vals.limit) where
  -- before the instruction there are no more kinds than the limit
  pub wanted : (x : Instr) → Ready i p (frame_of f) c x ks → Wants i x f h
  wanted (op.Int z) r = let l : suc (length ks) ≤ c.stack = r.own.low in omega arith
  wanted (op.Bool b) r = let l : suc (length ks) ≤ c.stack = r.own.low in omega arith
  wanted op.Null r = let l : suc (length ks) ≤ c.stack = r.own.low in omega arith
  wanted (op.Cls k) r = let l : suc (length ks) ≤ c.stack = r.own.low in omega arith
  wanted (op.Load x) r =
      let b : x < length (locals_of c) = ltb-true x (length (locals_of c)) r.own.local in
      let v = pairs_long (IsWord i p) (locals_of c) f.vars.words r.vars.are in
      let g = get_there (locals_of c) x b in
      let l : length (list_of (local_kind c x) ++ ks) ≤ c.stack = r.own.low in
      let u = list_long g.0 (local_kind c x) ks g.1 in
      (omega arith, omega arith)
  wanted (op.Store x) r =
      let b : x < length (locals_of c) = ltb-true x (length (locals_of c)) r.own.local in
      let v = pairs_long (IsWord i p) (locals_of c) f.vars.words r.vars.are in
      let n : 1 ≤ length ks = r.own.many in
      ((omega arith, omega arith), omega arith)
  wanted op.Pop r = let n : 1 ≤ length ks = r.own.many in (omega arith, omega arith)
  wanted op.Add r = let n : 2 ≤ length ks = r.own.many in (omega arith, omega arith)
  wanted op.Sub r = let n : 2 ≤ length ks = r.own.many in (omega arith, omega arith)
  wanted op.Mul r = let n : 2 ≤ length ks = r.own.many in (omega arith, omega arith)
  wanted op.Div r = let n : 2 ≤ length ks = r.own.many in (omega arith, omega arith)
  wanted op.Rem r = let n : 2 ≤ length ks = r.own.many in (omega arith, omega arith)
  wanted op.Neg r = let n : 1 ≤ length ks = r.own.many in (omega arith, omega arith)
  wanted op.Lt r = let n : 2 ≤ length ks = r.own.many in (omega arith, omega arith)
  wanted op.Le r = let n : 2 ≤ length ks = r.own.many in (omega arith, omega arith)
  wanted op.Gt r = let n : 2 ≤ length ks = r.own.many in (omega arith, omega arith)
  wanted op.Ge r = let n : 2 ≤ length ks = r.own.many in (omega arith, omega arith)
  wanted op.Eqi r = let n : 2 ≤ length ks = r.own.many in (omega arith, omega arith)
  wanted op.Eqb r = let n : 2 ≤ length ks = r.own.many in (omega arith, omega arith)
  wanted op.Eqr r = let n : 2 ≤ length ks = r.own.many in (omega arith, omega arith)
  wanted op.Not r = let n : 1 ≤ length ks = r.own.many in (omega arith, omega arith)
  wanted (op.Jump t) r = tt
  wanted (op.Jfalse t) r = let n : 1 ≤ length ks = r.own.many in (omega arith, omega arith)
  wanted (op.Jtrue t) r = let n : 1 ≤ length ks = r.own.many in (omega arith, omega arith)
  wanted op.Viewof r = let n : 1 ≤ length ks = r.own.many in (omega arith, omega arith)
  wanted (op.Up k) r = let n : 1 ≤ length ks = r.own.many in (omega arith, omega arith)
  wanted (op.Down name) r =
      let n : 1 ≤ length ks = r.own.many in
      ((omega arith, omega arith), top_is i p (IsClass i) kind.Class [] ks f.vals.words r.own.suits r.vals.are (class_below i p))
  wanted op.New r =
      let n : 1 ≤ length ks = r.own.many in
      ((omega arith, omega arith), top_is i p (HasGroup i) kind.Class [] ks f.vals.words r.own.suits r.vals.are (has_group i p m rows h hp))
  wanted (op.Ctor s) r =
      let n : suc (length (each_some (arguments_of i s))) ≤ length ks = r.own.many in
      let args : HasArgs i s 0 (drop 1 f.vals.words) = args_are_there i s 0 (drop 1 f.vals.words) r.own.number (λ shape e. let a = arguments_long i s shape e in let b = each_long (arguments_of i s) in let q : suc (length shape.params + 0) ≤ length f.vals.words = omega arith in drop_one_long f.vals.words (length shape.params + 0) q) in (
        (omega arith, omega arith),
        top_is i p (IsView i) kind.Reference (each_some (arguments_of i s)) ks f.vals.words r.own.suits r.vals.are (view_is i p m rows h hp),
        args,
      )
  wanted (op.Call s) r =
      let n : length (each_some (arguments_of i s ++ one kind.Reference)) ≤ length ks = r.own.many in
      let args : HasArgs i s 1 f.vals.words = args_are_there i s 1 f.vals.words r.own.number (λ shape e. let a = each_args i s shape e in omega arith) in
      (args, receiver_is i p m rows h hp s ks f.vals.words r.own.suits r.vals.are)
  wanted (op.Callat s) r =
      let n : suc (length (each_some (arguments_of i s ++ one kind.Reference))) ≤ length ks = r.own.many in
      let w = each_some (arguments_of i s ++ one kind.Reference) in
      let args : HasArgs i s 1 (drop 1 f.vals.words) = args_are_there i s 1 (drop 1 f.vals.words) r.own.number (λ shape e. let a = each_args i s shape e in let q : suc (length shape.params + 1) ≤ length f.vals.words = omega arith in drop_one_long f.vals.words (length shape.params + 1) q) in (
        (omega arith, omega arith),
        top_is i p (IsClass i) kind.Class w ks f.vals.words r.own.suits r.vals.are (class_below i p),
        args,
        receiver_is i p m rows h hp s (drop 1 ks) (drop 1 f.vals.words) (suit_rest (Some kind.Class) w ks r.own.suits) (drop_pairs (IsWord i p) ks f.vals.words r.vals.are),
      )
  wanted (op.Get s) r =
      let n : 1 ≤ length ks = r.own.many in (
        (omega arith, omega arith),
        top_is i p (Reaches i h s) kind.Reference [] ks f.vals.words r.own.suits r.vals.are (reaches i p m rows h hp s f c ks),
        ltb-true s (length i.fields) r.own.number,
      )
  wanted (op.Put s) r =
      let n : 2 ≤ length ks = r.own.many in (
        (omega arith, omega arith),
        below_is i p (Reaches i h s) (field_kind i s) kind.Reference ks f.vals.words r.own.suits r.vals.are (reaches i p m rows h hp s f c ks),
      )
  wanted op.Conv r =
      let n : 2 ≤ length ks = r.own.many in
      ((omega arith, omega arith), top_is i p (IsClass i) kind.Class (one (Some kind.Reference)) ks f.vals.words r.own.suits r.vals.are (class_below i p))
  wanted op.Check r = let n : 1 ≤ length ks = r.own.many in (omega arith, omega arith)
  wanted op.Printi r = let n : 1 ≤ length ks = r.own.many in (omega arith, omega arith)
  wanted op.Printb r = let n : 1 ≤ length ks = r.own.many in (omega arith, omega arith)
  wanted (op.Printt t) r = ltb-true t (length i.texts) r.own.number
  wanted op.Ret r = tt
  wanted op.Retv r = let n : 1 ≤ length ks = r.own.many in (omega arith, omega arith)
