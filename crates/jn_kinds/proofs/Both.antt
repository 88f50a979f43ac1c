-- What each way to take operands does, with the kinds and without.
use Rattle.std.proofs.Common.{◌≡◌, ◌≢◌, refl, sym, ◌∙◌, ℕ, ◌+◌, ◌<◌, List, [], ◌∷◌, ◌++◌, length, map, drop, reverse, ℤ, pos, Bool, true, false, ◌&&◌, Option, Some, None, slice_get, arith, subst}
use Rattle.std.specs.Prelude.{if◌then◌else◌}
use Rattle.std.specs.Option.{option_map}
use Rattle.std.proofs.lemmas.List.{length-reverse, reverse-reverse, length-map}
use Rattle.jn_steps.specs.Steps.{Goes, Enters, Leaves, Falls, Faults, on_some, on_one, on_two, on_args}
use Rattle.jn_code.specs.declared.kind.OperandKind.{OperandKind}
use Rattle.jn_code.specs.declared.kind.OperandKind.TheVariants as kind
use Rattle.jn_code.specs.declared.instr.Instr.{Instr}
use Rattle.jn_code.specs.declared.image.Image.{Image}
use Rattle.jn_code.specs.declared.image.Shape.{Shape}
use Rattle.jn_code.specs.declared.image.ClassRow.{ClassRow}
use Rattle.jn_code.specs.declared.image.Code.{Code}
use Rattle.jn_code.specs.Kinds.{kind_of, result_kind, locals_of, each_some, after_it, target_of, goes_on}
use Rattle.jn_code.specs.Rows.{kind_eq}
use Rattle.jn_code.specs.Valid.{suits, all_suit}
use Rattle.jn_code.specs.Known.{KnownAt, SuitsKinds, notes_of}
use Rattle.jn_code.specs.Going.{Cell, IsRef, expected, result_at}
use Rattle.jn_code.specs.Machine as plain
use Rattle.jn_code.specs.Machine.{Halt, Null, Stuck, Ref, Did}
use Rattle.jn_code.proofs.Sound.{both_left, both_right, kind_same, get_below, get_there}
use Rattle.jn_code.proofs.Words.{Later, ref_in_word}
use Rattle.jn_code.proofs.Frames.{rev_onto}
use Rattle.jn_kinds.specs.Values.{Value, Number, Truth, NoObject, Object, Class, word, words, held_word}
use Rattle.jn_kinds.specs.Careful.{Careful, Heap, Act, on_number, on_truth, on_class, on_object, on_row}
use Rattle.jn_kinds.specs.Kept.{plain_frame}
use Rattle.jn_kinds.proofs.Fit.{IsVal, AreVals, HeapFits, CellFits, pairs_long}

pub record Placed (i : Image) (p : List Cell) (f : Careful) (above : List OperandKind) : Type 0 where
  pub code : Code
  pub is : slice_get i.codes f.code ≡ Some code
  pub ks : List OperandKind
  pub known : KnownAt (notes_of i code) f.place (above ++ ks)
  pub vars : AreVals i p (locals_of code) f.vars
  pub vals : AreVals i p ks f.vals

abbrev pub WaitsFor : Image → List Cell → Careful → Option OperandKind → Type 0
WaitsFor i p f r = Placed i p f (expected f.keeps r)

abbrev pub HandsBack : Image → List Cell → Option OperandKind → Option Value → Type 0
HandsBack i p None None = Unit {0}
HandsBack i p None (Some v) = ⊥
HandsBack i p (Some k) None = ⊥
HandsBack i p (Some k) (Some v) = IsVal i p k v

abbrev pub Waiting : Image → List Cell → Option OperandKind → List Careful → Type 0
Waiting i p r [] = Unit {0}
Waiting i p r (f ∷ fs) = WaitsFor i p f r × Waiting i p (result_at i f.code) fs

abbrev pub DoesFit : Image → ℕ → List Cell → ℕ → Act → Type 0
DoesFit i m p b (Goes f h bytes) = (q : List Cell) × Later p q × HeapFits i m q h × Placed i q f [] × (f.code ≡ b)
DoesFit i m p b (Enters g args f h) =
    (c : Code) × (slice_get i.codes g ≡ Some c) × AreVals i p (map kind_of c.params) args × WaitsFor i p f (result_kind c.result) × HeapFits i m p h × (f.code ≡ b)
DoesFit i m p b (Leaves v h) = HandsBack i p (result_at i b) v × HeapFits i m p h
DoesFit i m p b Falls = ⊥
DoesFit i m p b (Faults o) = o ≢ Stuck

-- what is done, without the kinds
abbrev pub plain_act : Act → Did
plain_act (Goes f h bytes) = Goes (plain_frame f) (map held_word h) bytes
plain_act (Enters g args f h) = Enters g (words args) (plain_frame f) (map held_word h)
plain_act (Leaves v h) = Leaves (option_map word v) (map held_word h)
plain_act Falls = Falls
plain_act (Faults o) = Faults o

-- it fits, and is what the machine does
pub record Both (i : Image) (m : ℕ) (p : List Cell) (b : ℕ) (d : Act) (e : Did) : Type 0 where
  pub fits : DoesFit i m p b d
  pub same : plain_act d ≡ e

pub record Ready (i : Image) (p : List Cell) (f : Careful) (code : Code) (instr : Instr) (ks : List OperandKind) : Type 0 where
  pub is : slice_get i.codes f.code ≡ Some code
  pub at : slice_get code.instrs f.place ≡ Some instr
  pub own : SuitsKinds i code instr ks
  pub target : (t : ℕ) → target_of instr ≡ Some t → KnownAt (notes_of i code) t (after_it i code instr ks)
  pub next : goes_on instr ≡ true → KnownAt (notes_of i code) (f.place + 1) (after_it i code instr ks)
  pub vars : AreVals i p (locals_of code) f.vars
  pub vals : AreVals i p ks f.vals

pub push : (i : Image) (p : List Cell) (k : OperandKind) (ks : List OperandKind) (v : Value) (vs : List Value) → IsVal i p k v → AreVals i p ks vs → AreVals i p (k ∷ ks) (v ∷ vs)
push i p k ks v vs w a = record { are = (w, a.are) }

pub as_kind : (i : Image) (p : List Cell) (w k : OperandKind) (v : Value) → suits (Some w) k ≡ true → IsVal i p k v → IsVal i p w v
as_kind i p w k v s u = let q : w ≡ k = kind_same w k s in subst (λ (k : OperandKind). IsVal i p k v) (sym q) u

-- P is to hold of what both do
module _ (i : Image) (p : List Cell) (P : Act → Did → Type 0) where
  pub some_there : {A B : Type 0} (fault : Halt) (o : Option A) (u : Option B) (a : A) (b : B) (go : A → Act) (run : B → Did) → o ≡ Some a → u ≡ Some b → P (go a) (run b) → P (on_some fault o go) (on_some fault u run)
  some_there fault None u a b go run e e' h = absurd cc
  some_there fault (Some c) None a b go run e e' h = absurd cc
  some_there {A} {B} fault (Some c) (Some d) a b go run e e' h =
      let q : a ≡ c = cc in
      let r : b ≡ d = cc in subst (λ (a : A). P (go a) (run d)) q (subst (λ (b : B). P (go a) (run b)) r h)

  pub some_or : {A : Type 0} (fault : Halt) (o : Option A) (go : A → Act) (run : A → Did) → P (Faults fault) (Faults fault) → ((a : A) → o ≡ Some a → P (go a) (run a)) → P (on_some fault o go) (on_some fault o run)
  some_or fault None go run n h = n
  some_or fault (Some a) go run n h = h a refl

  pub if_ok : (b c : Bool) (s t : Act) (s' t' : Did) → b ≡ c → (b ≡ true → P s s') → (b ≡ false → P t t') → P (if b then s else t) (if c then s' else t')
  if_ok true true s t s' t' e h k = h refl
  if_ok true false s t s' t' e h k = absurd cc
  if_ok false true s t s' t' e h k = absurd cc
  if_ok false false s t s' t' e h k = k refl

  pub one_ok : (w : Option OperandKind) (ws : List (Option OperandKind)) (ks : List OperandKind) (vs : List Value) (go : Value → List Value → Act) (run : ℤ → List ℤ → Did) → all_suit (w ∷ ws) ks ≡ true → AreVals i p ks vs → ((k : OperandKind) (v : Value) (ys : List Value) → suits w k ≡ true → IsVal i p k v → all_suit ws (drop 1 ks) ≡ true → AreVals i p (drop 1 ks) ys → P (go v ys) (run (word v) (words ys))) → P (on_one Stuck vs go) (on_one Stuck (words vs) run)
  one_ok w ws [] vs go run e a h = absurd cc
  one_ok w ws (k ∷ ks) [] go run e a h = absurd a.are
  one_ok w ws (k ∷ ks) (v ∷ vs) go run e a h =
      h k v vs (both_left (suits w k) (all_suit ws ks) e) a.are.0 (both_right (suits w k) (all_suit ws ks) e) (record { are = a.are.1 })

  pub two_ok : (w v : Option OperandKind) (ks : List OperandKind) (vs : List Value) (go : Value → Value → List Value → Act) (run : ℤ → ℤ → List ℤ → Did) → all_suit (w ∷ (v ∷ [])) ks ≡ true → AreVals i p ks vs → ((j k : OperandKind) (y z : Value) (ys : List Value) → suits v j ≡ true → IsVal i p j y → suits w k ≡ true → IsVal i p k z → AreVals i p (drop 2 ks) ys → P (go y z ys) (run (word y) (word z) (words ys))) → P (on_two Stuck vs go) (on_two Stuck (words vs) run)
  two_ok w v [] vs go run e a h = absurd cc
  two_ok w v (k ∷ []) vs go run e a h = absurd (let q = both_right (suits w k) false e in cc)
  two_ok w v (k ∷ (j ∷ ks)) [] go run e a h = absurd a.are
  two_ok w v (k ∷ (j ∷ ks)) (z ∷ []) go run e a h = absurd a.are.1
  two_ok w v (k ∷ (j ∷ ks)) (z ∷ (y ∷ vs)) go run e a h =
      let s = both_right (suits w k) (suits v j && true) e in
      h j k y z vs (both_left (suits v j) true s) a.are.1.0 (both_left (suits w k) (suits v j && true) e) a.are.0 (record { are = a.are.1.1 })

  pub args_ok : (ps : List OperandKind) (ws : List (Option OperandKind)) (ks qs : List OperandKind) (taken vs : List Value) (go : List Value → List Value → Act) (run : List ℤ → List ℤ → Did) → all_suit (each_some ps ++ ws) ks ≡ true → AreVals i p ks vs → AreVals i p qs taken → ((args vs : List Value) → AreVals i p (rev_onto ps qs) args → all_suit ws (drop (length ps) ks) ≡ true → AreVals i p (drop (length ps) ks) vs → P (go args vs) (run (words args) (words vs))) → P (on_args Stuck (length ps) taken vs go) (on_args Stuck (length ps) (words taken) (words vs) run)
  args_ok [] ws ks qs taken vs go run e a q h = h taken vs q e a
  args_ok (r ∷ ps) ws [] qs taken vs go run e a q h = absurd cc
  args_ok (r ∷ ps) ws (k ∷ ks) qs taken [] go run e a q h = absurd a.are
  args_ok (r ∷ ps) ws (k ∷ ks) qs taken (v ∷ vs) go run e a q h =
      let u = as_kind i p r k v (both_left (kind_eq r k) (all_suit (each_some ps ++ ws) ks) e) a.are.0 in
      args_ok ps ws ks (r ∷ qs) (v ∷ taken) vs go run (both_right (kind_eq r k) (all_suit (each_some ps ++ ws) ks) e) (record { are = a.are.1 }) (push i p r qs v taken u q) h

  -- the arguments of a method, in the order of its parameters
  pub shape_ok : (s : Shape) (ws : List (Option OperandKind)) (ks : List OperandKind) (vs : List Value) (go : List Value → List Value → Act) (run : List ℤ → List ℤ → Did) → all_suit (each_some (reverse (map kind_of s.params)) ++ ws) ks ≡ true → AreVals i p ks vs → ((args vs : List Value) → AreVals i p (map kind_of s.params) args → all_suit ws (drop (length (reverse (map kind_of s.params))) ks) ≡ true → AreVals i p (drop (length (reverse (map kind_of s.params))) ks) vs → P (go args vs) (run (words args) (words vs))) → P (on_args Stuck (length s.params) [] vs go) (on_args Stuck (length s.params) [] (words vs) run)
  shape_ok s ws ks vs go run e a h =
      let ps = map kind_of s.params in
      let back : reverse (reverse ps) ≡ ps = reverse-reverse ps in
      let l : length (reverse ps) ≡ length s.params = length-reverse ps ∙ length-map s.params kind_of in
      subst (λ (n : ℕ). P (on_args Stuck n [] vs go) (on_args Stuck n [] (words vs) run)) l (args_ok (reverse ps) ws ks [] [] vs go run e a (record { are = tt }) (λ args vs u t v. h args vs (subst (λ (ps : List OperandKind). AreVals i p ps args) back u) t v))

  -- ---- an operand of a kind

  pub number_ok : (v : Value) (go : ℤ → Act) (run : ℤ → Did) → IsVal i p kind.Int v → ((z : ℤ) → P (go z) (run z)) → P (on_number v go) (run (word v))
  number_ok (Number z) go run w h = h z
  number_ok (Truth b) go run w h = absurd (let e = w.kind in cc)
  number_ok NoObject go run w h = absurd (let e = w.kind in cc)
  number_ok (Object view cell) go run w h = absurd (let e = w.kind in cc)
  number_ok (Class k) go run w h = absurd (let e = w.kind in cc)

  pub truth_ok : (v : Value) (go : Bool → Act) (run : ℤ → Did) → IsVal i p kind.Bool v → ((b : Bool) → P (go b) (run (plain.word_of b))) → P (on_truth v go) (run (word v))
  truth_ok (Truth b) go run w h = h b
  truth_ok (Number z) go run w h = absurd (let e = w.kind in cc)
  truth_ok NoObject go run w h = absurd (let e = w.kind in cc)
  truth_ok (Object view cell) go run w h = absurd (let e = w.kind in cc)
  truth_ok (Class k) go run w h = absurd (let e = w.kind in cc)

  pub class_ok : (v : Value) (go : ℕ → Act) (run : ℤ → Did) → IsVal i p kind.Class v → ((k : ℕ) → k < length i.classes → P (go k) (run (pos k))) → P (on_class v go) (run (word v))
  class_ok (Class k) go run w h = h k w.names
  class_ok (Number z) go run w h = absurd (let e = w.kind in cc)
  class_ok (Truth b) go run w h = absurd (let e = w.kind in cc)
  class_ok NoObject go run w h = absurd (let e = w.kind in cc)
  class_ok (Object view cell) go run w h = absurd (let e = w.kind in cc)

  pub row_ok : (k : ℕ) (go : ClassRow → Act) (run : ClassRow → Did) → k < length i.classes → ((row : ClassRow) → slice_get i.classes k ≡ Some row → P (go row) (run row)) → P (on_row i k go) (plain.on_row i k run)
  row_ok k go run l h =
      let r = get_there i.classes k l in
      some_there Stuck (slice_get i.classes k) (slice_get i.classes k) r.0 r.0 go run r.1 r.1 (h r.0 r.1)

  module _ (m : ℕ) (h : Heap) (hp : HeapFits i m p h) where
    pub low_cell : (view cell : ℕ) → IsRef i p (record { view = view; cell = cell }) → cell + 1 < 4294967296
    low_cell view cell r =
        let l = pairs_long (CellFits i p) p h hp.cells in
        let b = get_below p cell _ r.first in
        let s = hp.small in
        let t = hp.bound in
        omega arith

    -- a reference that is not null
    pub object_ok : (v : Value) (go : ℕ → ℕ → Act) (run : Ref → Did) → IsVal i p kind.Reference v → P (Faults Null) (Faults Null) → ((view cell : ℕ) → v ≡ Object view cell → IsRef i p (record { view = view; cell = cell }) → P (go view cell) (run (record { view = view; cell = cell }))) → P (on_object v go) (plain.on_ref (word v) run)
    object_ok NoObject go run w n g = n
    object_ok (Object view cell) go run w n g =
        let low = low_cell view cell w.names in
        let e : plain.ref_in (plain.ref_word view cell) ≡ Some (record { view = view; cell = cell }) = ref_in_word (record { view = view; cell = cell }) (omega arith) in
        let Q : Option Ref → Type 0 = λ o. P (go view cell) (on_some Null o run) in
        subst Q (sym e) (g view cell refl w.names)
    object_ok (Number z) go run w n g = absurd (let e = w.kind in cc)
    object_ok (Truth b) go run w n g = absurd (let e = w.kind in cc)
    object_ok (Class k) go run w n g = absurd (let e = w.kind in cc)
