-- Frames whose operands are of the kinds that are known, and what such a frame may do.
use Rattle.std.proofs.Common.{◌≡◌, ◌≢◌, refl, sym, ap, ◌∙◌, ℕ, ◌+◌, ◌<◌, List, [], ◌∷◌, ◌++◌, length, map, drop, reverse, ℤ, Bool, true, false, ◌&&◌, Option, Some, None, slice_get, arith, inl, inr, subst}
use Rattle.std.specs.Prelude.{if◌then◌else◌}
use Rattle.std.proofs.lemmas.List.{length-reverse, reverse-reverse, length-map}
use Rattle.jn_steps.specs.Steps.{Goes, Enters, Leaves, Falls, Faults, on_some, on_one, on_two, on_args}
use Rattle.jn_code.specs.declared.kind.OperandKind.{OperandKind}
use Rattle.jn_code.specs.declared.kind.OperandKind.TheVariants as kind
use Rattle.jn_code.specs.declared.instr.Instr.{Instr}
use Rattle.jn_code.specs.declared.image.Image.{Image}
use Rattle.jn_code.specs.declared.image.Shape.{Shape}
use Rattle.jn_code.specs.declared.image.ClassRow.{ClassRow}
use Rattle.jn_code.specs.declared.image.Code.{Code}
use Rattle.jn_code.specs.Kinds.{kind_of, result_kind, locals_of, each_some, after_it, target_of, goes_on}
use Rattle.jn_code.specs.Rows.{kind_eq}
use Rattle.jn_code.specs.Valid.{suits, all_suit}
use Rattle.jn_code.specs.Known.{KnownAt, SuitsKinds, notes_of}
use Rattle.jn_code.specs.Going.{Cell, IsRef, IsWord, AreWords, CellHolds, HeapOk, Placed, expected, WaitsFor, result_at, Waiting}
use Rattle.jn_code.specs.Machine.{Halt, Null, Stuck, Frame, Ref, ref_word, ref_in, class_in, Did, on_ref, on_row}
use Rattle.jn_code.proofs.Sound.{both_left, both_right, kind_same, get_below, get_there}
use Rattle.jn_code.proofs.Words.{Later, words_later, pairs_long, ref_in_word}

-- what a code of this result kind hands back
abbrev pub HandsBack : Image → List Cell → Option OperandKind → Option ℤ → Type 0
HandsBack i p None None = Unit {0}
HandsBack i p None (Some z) = ⊥
HandsBack i p (Some k) None = ⊥
HandsBack i p (Some k) (Some z) = IsWord i p k z

-- what a frame of code b may do
abbrev pub DoesOk : Image → ℕ → List Cell → ℕ → Did → Type 0
DoesOk i m p b (Goes f h bytes) = (q : List Cell) × Later p q × HeapOk i m q h × Placed i q f [] × (f.code ≡ b)
DoesOk i m p b (Enters g args f h) =
    (c : Code) × (slice_get i.codes g ≡ Some c) × AreWords i p (map kind_of c.params) args × WaitsFor i p f (result_kind c.result) × HeapOk i m p h × (f.code ≡ b)
DoesOk i m p b (Leaves v h) = HandsBack i p (result_at i b) v × HeapOk i m p h
DoesOk i m p b Falls = ⊥
DoesOk i m p b (Faults o) = o ≢ Stuck

-- An instruction that is about to be obeyed, with the kinds before it.
pub record Ready (i : Image) (p : List Cell) (f : Frame) (code : Code) (instr : Instr) (ks : List OperandKind) : Type 0 where
  pub is : slice_get i.codes f.code ≡ Some code
  pub at : slice_get code.instrs f.place ≡ Some instr
  pub own : SuitsKinds i code instr ks
  pub target : (t : ℕ) → target_of instr ≡ Some t → KnownAt (notes_of i code) t (after_it i code instr ks)
  pub next : goes_on instr ≡ true → KnownAt (notes_of i code) (f.place + 1) (after_it i code instr ks)
  pub vars : AreWords i p (locals_of code) f.vars
  pub vals : AreWords i p ks f.vals

pub push : (i : Image) (p : List Cell) (k : OperandKind) (ks : List OperandKind) (z : ℤ) (zs : List ℤ) → IsWord i p k z → AreWords i p ks zs → AreWords i p (k ∷ ks) (z ∷ zs)
push i p k ks z zs w a = record { are = (w, a.are) }

pub as_kind : (i : Image) (p : List Cell) (w k : OperandKind) (z : ℤ) → suits (Some w) k ≡ true → IsWord i p k z → IsWord i p w z
as_kind i p w k z s u = let q : w ≡ k = kind_same w k s in subst (λ (k : OperandKind). IsWord i p k z) (sym q) u

abbrev pub rev_onto : List OperandKind → List OperandKind → List OperandKind
rev_onto [] qs = qs
rev_onto (k ∷ ks) qs = rev_onto ks (k ∷ qs)

-- what each way to take operands does, where P is to hold of it
module _ (i : Image) (p : List Cell) (P : Did → Type 0) where
  pub some_there : {A : Type 0} (fault : Halt) (o : Option A) (a : A) (go : A → Did) → o ≡ Some a → P (go a) → P (on_some fault o go)
  some_there fault None a go e h = absurd cc
  some_there {A} fault (Some b) a go e h = let q : a ≡ b = cc in subst (λ (a : A). P (go a)) q h

  pub some_or : {A : Type 0} (fault : Halt) (o : Option A) (go : A → Did) → P (Faults fault) → ((a : A) → o ≡ Some a → P (go a)) → P (on_some fault o go)
  some_or fault None go n h = n
  some_or fault (Some a) go n h = h a refl

  pub if_ok : (b : Bool) (s t : Did) → (b ≡ true → P s) → (b ≡ false → P t) → P (if b then s else t)
  if_ok true s t h k = h refl
  if_ok false s t h k = k refl

  pub one_ok : (w : Option OperandKind) (ws : List (Option OperandKind)) (ks : List OperandKind) (zs : List ℤ) (go : ℤ → List ℤ → Did) → all_suit (w ∷ ws) ks ≡ true → AreWords i p ks zs → ((k : OperandKind) (z : ℤ) (ys : List ℤ) → suits w k ≡ true → IsWord i p k z → all_suit ws (drop 1 ks) ≡ true → AreWords i p (drop 1 ks) ys → P (go z ys)) → P (on_one Stuck zs go)
  one_ok w ws [] zs go e a h = absurd cc
  one_ok w ws (k ∷ ks) [] go e a h = absurd a.are
  one_ok w ws (k ∷ ks) (z ∷ zs) go e a h =
      h k z zs (both_left (suits w k) (all_suit ws ks) e) a.are.0 (both_right (suits w k) (all_suit ws ks) e) (record { are = a.are.1 })

  pub two_ok : (w v : Option OperandKind) (ks : List OperandKind) (zs : List ℤ) (go : ℤ → ℤ → List ℤ → Did) → all_suit (w ∷ (v ∷ [])) ks ≡ true → AreWords i p ks zs → ((j k : OperandKind) (y z : ℤ) (ys : List ℤ) → suits v j ≡ true → IsWord i p j y → suits w k ≡ true → IsWord i p k z → AreWords i p (drop 2 ks) ys → P (go y z ys)) → P (on_two Stuck zs go)
  two_ok w v [] zs go e a h = absurd cc
  two_ok w v (k ∷ []) zs go e a h = absurd (let q = both_right (suits w k) false e in cc)
  two_ok w v (k ∷ (j ∷ ks)) [] go e a h = absurd a.are
  two_ok w v (k ∷ (j ∷ ks)) (z ∷ []) go e a h = absurd a.are.1
  two_ok w v (k ∷ (j ∷ ks)) (z ∷ (y ∷ zs)) go e a h =
      let s = both_right (suits w k) (suits v j && true) e in
      h j k y z zs (both_left (suits v j) true s) a.are.1.0 (both_left (suits w k) (suits v j && true) e) a.are.0 (record { are = a.are.1.1 })

  pub args_ok : (ps : List OperandKind) (ws : List (Option OperandKind)) (ks qs : List OperandKind) (taken zs : List ℤ) (go : List ℤ → List ℤ → Did) → all_suit (each_some ps ++ ws) ks ≡ true → AreWords i p ks zs → AreWords i p qs taken → ((args vs : List ℤ) → AreWords i p (rev_onto ps qs) args → all_suit ws (drop (length ps) ks) ≡ true → AreWords i p (drop (length ps) ks) vs → P (go args vs)) → P (on_args Stuck (length ps) taken zs go)
  args_ok [] ws ks qs taken zs go e a q h = h taken zs q e a
  args_ok (r ∷ ps) ws [] qs taken zs go e a q h = absurd cc
  args_ok (r ∷ ps) ws (k ∷ ks) qs taken [] go e a q h = absurd a.are
  args_ok (r ∷ ps) ws (k ∷ ks) qs taken (z ∷ zs) go e a q h =
      let v = as_kind i p r k z (both_left (kind_eq r k) (all_suit (each_some ps ++ ws) ks) e) a.are.0 in
      args_ok ps ws ks (r ∷ qs) (z ∷ taken) zs go (both_right (kind_eq r k) (all_suit (each_some ps ++ ws) ks) e) (record { are = a.are.1 }) (push i p r qs z taken v q) h

  -- the arguments of a method, in the order of its parameters
  pub shape_ok : (s : Shape) (ws : List (Option OperandKind)) (ks : List OperandKind) (zs : List ℤ) (go : List ℤ → List ℤ → Did) → all_suit (each_some (reverse (map kind_of s.params)) ++ ws) ks ≡ true → AreWords i p ks zs → ((args vs : List ℤ) → AreWords i p (map kind_of s.params) args → all_suit ws (drop (length (reverse (map kind_of s.params))) ks) ≡ true → AreWords i p (drop (length (reverse (map kind_of s.params))) ks) vs → P (go args vs)) → P (on_args Stuck (length s.params) [] zs go)
  shape_ok s ws ks zs go e a h =
      let ps = map kind_of s.params in
      let back : reverse (reverse ps) ≡ ps = reverse-reverse ps in
      let l : length (reverse ps) ≡ length s.params = length-reverse ps ∙ length-map s.params kind_of in
      subst (λ (n : ℕ). P (on_args Stuck n [] zs go)) l (args_ok (reverse ps) ws ks [] [] zs go e a (record { are = tt }) (λ args vs u t v. h args vs (subst (λ (ps : List OperandKind). AreWords i p ps args) back u) t v))

  -- a reference that is not null
  pub ref_ok : (m : ℕ) (h : List ℤ) (z : ℤ) (go : Ref → Did) → HeapOk i m p h → IsWord i p kind.Reference z → P (Faults Null) → ((r : Ref) → IsRef i p r → z ≡ ref_word r.view r.cell → P (go r)) → P (on_ref z go)
  ref_ok m h z go hp (inl e) n f = let Q : ℤ → Type 0 = λ z. P (on_ref z go) in subst Q (sym e) n
  ref_ok m h z go hp (inr w) n f =
      let l = pairs_long (CellHolds i p) p h hp.cells in
      let b = get_below p w.0.cell _ w.1.first in
      let s = hp.small in
      let t = hp.bound in
      let low : w.0.cell < 4294967296 = omega arith in
      some_there Null (ref_in z) w.0 go (ap ref_in w.2 ∙ ref_in_word w.0 low) (f w.0 w.1 w.2)

  pub row_ok : (z : ℤ) (go : ClassRow → Did) → IsWord i p kind.Class z → ((row : ClassRow) → slice_get i.classes (class_in z) ≡ Some row → P (go row)) → P (on_row i (class_in z) go)
  row_ok z go w h =
      let k = w.0 in
      let r = get_there i.classes k w.2 in
      let e : slice_get i.classes (class_in z) ≡ Some r.0 = ap (λ (z : ℤ). slice_get i.classes (class_in z)) w.1 ∙ r.1 in
      some_there Stuck (slice_get i.classes (class_in z)) r.0 go e (h r.0 e)

pub class_below : (i : Image) (p : List Cell) (z : ℤ) → IsWord i p kind.Class z → class_in z < length i.classes
class_below i p z w = let e : class_in z ≡ w.0 = ap class_in w.1 in let l = w.2 in omega arith

pub placed_later : (i : Image) (p q : List Cell) (f : Frame) (above : List OperandKind) → Later p q → Placed i p f above → Placed i q f above
placed_later i p q f above l w = record {
  code = w.code;
  is = w.is;
  ks = w.ks;
  known = w.known;
  vars = words_later i p q _ f.vars l w.vars;
  vals = words_later i p q w.ks f.vals l w.vals;
}

pub waiting_later : (i : Image) (p q : List Cell) (r : Option OperandKind) (fs : List Frame) → Later p q → Waiting i p r fs → Waiting i q r fs
waiting_later i p q r [] l w = tt
waiting_later i p q r (f ∷ fs) l w =
    (placed_later i p q f (expected f.keeps r) l w.0, waiting_later i p q (result_at i f.code) fs l w.1)
