-- Words of a kind, and a heap whose cells are of their kinds.
use Rattle.std.proofs.Common.{◌≡◌, refl, sym, ap, ◌∙◌, ℕ, zero, suc, ◌+◌, ◌*◌, ◌%◌, ◌<◌, ◌≤◌, List, [], ◌∷◌, ◌++◌, length, map, replicate, ℤ, pos, Option, Some, slice_get, slice_set, arith, ◌⊎◌, inl, inr, subst}
use Rattle.std.specs.Option.{option_map}
use Rattle.std.proofs.lemmas.Nat.{div-mul-add, mod-mul-add}
use Rattle.std.proofs.lemmas.Option.{slice_get-map}
use Rattle.jn_code.specs.declared.kind.OperandKind.{OperandKind}
use Rattle.jn_code.specs.declared.kind.OperandKind.TheVariants as kind
use Rattle.jn_code.specs.declared.image.Image.{Image}
use Rattle.jn_code.specs.declared.image.Group.{Group}
use Rattle.jn_code.specs.Kinds.{kind_of}
use Rattle.jn_code.specs.Going.{Cell, First, Slot, Views, IsRef, IsWord, Pairs, AreWords, CellHolds, PlanOk, HeapOk}
use Rattle.jn_code.specs.Machine.{Ref, ref_word, ref_in, object_cells}

-- what was planned stays
pub record Later (p q : List Cell) : Type 0 where
  pub at : (c : ℕ) (x : Cell) → slice_get p c ≡ Some x → slice_get q c ≡ Some x

pub later_refl : (p : List Cell) → Later p p
later_refl p = record { at = λ c x e. e }

pub ref_later : (i : Image) (p q : List Cell) (r : Ref) → Later p q → IsRef i p r → IsRef i q r
ref_later i p q r l w = record { group = w.group; views = w.views; first = l.at r.cell (First w.group) w.first }

pub word_later : (i : Image) (p q : List Cell) (k : OperandKind) (z : ℤ) → Later p q → IsWord i p k z → IsWord i q k z
word_later i p q kind.Int z l w = tt
word_later i p q kind.Bool z l w = tt
word_later i p q kind.Reference z l (inl e) = inl e
word_later i p q kind.Reference z l (inr w) = inr (w.0, ref_later i p q w.0 l w.1, w.2)
word_later i p q kind.Class z l w = w

pub cell_later : (i : Image) (p q : List Cell) (c : Cell) (z : ℤ) → Later p q → CellHolds i p c z → CellHolds i q c z
cell_later i p q (First g) z l w = tt
cell_later i p q (Slot k) z l w = word_later i p q k z l w

pub pairs_map : {A : Type 0} (R Q : A → ℤ → Type 0) → ((a : A) (z : ℤ) → R a z → Q a z) → (xs : List A) (zs : List ℤ) → Pairs R xs zs → Pairs Q xs zs
pairs_map R Q f [] [] w = tt
pairs_map R Q f [] (z ∷ zs) w = absurd w
pairs_map R Q f (a ∷ xs) [] w = absurd w
pairs_map R Q f (a ∷ xs) (z ∷ zs) w = (f a z w.0, pairs_map R Q f xs zs w.1)

pub words_later : (i : Image) (p q : List Cell) (ks : List OperandKind) (zs : List ℤ) → Later p q → AreWords i p ks zs → AreWords i q ks zs
words_later i p q ks zs l w =
    record { are = pairs_map (IsWord i p) (IsWord i q) (λ k z u. word_later i p q k z l u) ks zs w.are }

pub pairs_long : {A : Type 0} (R : A → ℤ → Type 0) (xs : List A) (zs : List ℤ) → Pairs R xs zs → length xs ≡ length zs
pairs_long R [] [] w = refl
pairs_long R [] (z ∷ zs) w = absurd w
pairs_long R (a ∷ xs) [] w = absurd w
pairs_long R (a ∷ xs) (z ∷ zs) w = ap suc (pairs_long R xs zs w.1)

pub pairs_get : {A : Type 0} (R : A → ℤ → Type 0) (xs : List A) (zs : List ℤ) (n : ℕ) (a : A) → Pairs R xs zs → slice_get xs n ≡ Some a → (z : ℤ) × (slice_get zs n ≡ Some z) × R a z
pairs_get R [] zs n a w e = absurd cc
pairs_get R (x ∷ xs) [] n a w e = absurd w
pairs_get {A} R (x ∷ xs) (z ∷ zs) zero a w e = let q : x ≡ a = cc in (z, refl, subst (λ (a : A). R a z) q w.0)
pairs_get R (x ∷ xs) (z ∷ zs) (suc n) a w e = pairs_get R xs zs n a w.1 e

pub pairs_set : {A : Type 0} (R : A → ℤ → Type 0) (xs : List A) (zs : List ℤ) (n : ℕ) (a : A) (z : ℤ) → Pairs R xs zs → slice_get xs n ≡ Some a → R a z → Pairs R xs (slice_set zs n z)
pairs_set R [] [] n a z w e v = w
pairs_set R [] (y ∷ zs) n a z w e v = absurd w
pairs_set R (x ∷ xs) [] n a z w e v = absurd w
pairs_set {A} R (x ∷ xs) (y ∷ zs) zero a z w e v = let q : x ≡ a = cc in (subst (λ (a : A). R a z) (sym q) v, w.1)
pairs_set R (x ∷ xs) (y ∷ zs) (suc n) a z w e v = (w.0, pairs_set R xs zs n a z w.1 e v)

pub pairs_both : {A : Type 0} (R : A → ℤ → Type 0) (xs ys : List A) (us vs : List ℤ) → Pairs R xs us → Pairs R ys vs → Pairs R (xs ++ ys) (us ++ vs)
pairs_both R [] ys [] vs u v = v
pairs_both R [] ys (z ∷ us) vs u v = absurd u
pairs_both R (x ∷ xs) ys [] vs u v = absurd u
pairs_both R (x ∷ xs) ys (z ∷ us) vs u v = (u.0, pairs_both R xs ys us vs u.1 v)

-- 0 is a word of each kind that an image can name
pub zero_word : (i : Image) (p : List Cell) (b : ℕ) → IsWord i p (kind_of b) (pos 0)
zero_word i p zero = inl refl
zero_word i p (suc zero) = tt
zero_word i p (suc (suc zero)) = tt
zero_word i p (suc (suc (suc n))) = inl refl

pub zero_words : (i : Image) (p : List Cell) (bs : List ℕ) → Pairs (IsWord i p) (map kind_of bs) (replicate (length bs) (pos 0))
zero_words i p [] = tt
zero_words i p (b ∷ bs) = (zero_word i p b, zero_words i p bs)

-- the reference that a word stands for
pub ref_in_word : (r : Ref) → r.cell < 4294967296 → ref_in (ref_word r.view r.cell) ≡ Some r
ref_in_word r low =
    let a = div-mul-add r.view 4294967296 r.cell low in
    let b = mod-mul-add r.view 4294967296 r.cell low in
    let made : ℕ → ℕ → Option Ref = λ v c. Some (record { view = v; cell = c }) in
    ap (λ v. made v ((r.view * 4294967296 + r.cell) % 4294967296)) a ∙ ap (λ c. made r.view c) b

-- places of lists that are joined
pub get_left : {A : Type 0} (xs ys : List A) (n : ℕ) (a : A) → slice_get xs n ≡ Some a → slice_get (xs ++ ys) n ≡ Some a
get_left [] ys n a e = absurd cc
get_left (x ∷ xs) ys zero a e = e
get_left (x ∷ xs) ys (suc n) a e = get_left xs ys n a e

pub get_right : {A : Type 0} (xs ys : List A) (n : ℕ) → slice_get (xs ++ ys) (length xs + n) ≡ slice_get ys n
get_right [] ys n = let e : 0 + n ≡ n = omega arith in ap (slice_get ys) e
get_right {A} (x ∷ xs) ys n =
    let e : suc (length xs) + n ≡ suc (length xs + n) = omega arith in
    ap (λ k. slice_get (x ∷ (xs ++ ys)) k) e ∙ get_right xs ys n

pub get_either : {A : Type 0} (xs ys : List A) (n : ℕ) (a : A) → slice_get (xs ++ ys) n ≡ Some a → (slice_get xs n ≡ Some a) ⊎ ((m : ℕ) × (n ≡ length xs + m) × (slice_get ys m ≡ Some a))
get_either [] ys n a e = inr (n, omega arith, e)
get_either (x ∷ xs) ys zero a e = inl e
get_either (x ∷ xs) ys (suc n) a e = elim (get_either xs ys n a e) [ inl u ↦ inl u | inr u ↦ let q = u.1 in inr (u.0, omega arith, u.2) ]

-- the cells of a new object
abbrev pub object_plan : ℕ → Group → List Cell
object_plan g group = First g ∷ map (λ b. Slot (kind_of b)) group.slots

no_first : (bs : List ℕ) (n g : ℕ) → slice_get (map (λ b. Slot (kind_of b)) bs) n ≡ Some (First g) → ⊥
no_first [] n g e = cc
no_first (b ∷ bs) zero g e = cc
no_first (b ∷ bs) (suc n) g e = no_first bs n g e

slot_at : (bs : List ℕ) (n b : ℕ) → slice_get bs n ≡ Some b → slice_get (map (λ b. Slot (kind_of b)) bs) n ≡ Some (Slot (kind_of b))
slot_at bs n b e = slice_get-map (λ b. Slot (kind_of b)) bs n ∙ ap (option_map (λ b. Slot (kind_of b))) e

pub plan_grows : (p more : List Cell) → Later p (p ++ more)
plan_grows p more = record { at = λ c x e. get_left p more c x e }

new_slots : (i : Image) (p : List Cell) (g : ℕ) (group : Group) → slice_get i.groups g ≡ Some group → (m g' : ℕ) (group' : Group) → slice_get (object_plan g group) m ≡ Some (First g') → slice_get i.groups g' ≡ Some group' → (j b : ℕ) → slice_get group'.slots j ≡ Some b → slice_get (p ++ object_plan g group) (length p + m + 1 + j) ≡ Some (Slot (kind_of b))
new_slots i p g group is zero g' group' e is' j b s =
    let q : g ≡ g' = cc in
    let w : group ≡ group' = cc in
    let t : slice_get group.slots j ≡ Some b = subst (λ (x : Group). slice_get x.slots j ≡ Some b) (sym w) s in
    let n : length p + zero + 1 + j ≡ length p + suc j = omega arith in
    ap (slice_get (p ++ object_plan g group)) n ∙ get_right p (object_plan g group) (suc j) ∙ slot_at group.slots j b t
new_slots i p g group is (suc m) g' group' e is' j b s = absurd (no_first group.slots m g' e)

pub plan_made : (i : Image) (p : List Cell) (g : ℕ) (group : Group) → slice_get i.groups g ≡ Some group → PlanOk i p → PlanOk i (p ++ object_plan g group)
plan_made i p g group is ok c g' group' e is' j b s =
    elim (get_either p (object_plan g group) c (First g') e) [
      | inl u ↦ get_left p (object_plan g group) (c + 1 + j) (Slot (kind_of b)) (ok c g' group' u is' j b s)
      | inr u ↦ subst (λ (c : ℕ). slice_get (p ++ object_plan g group) (c + 1 + j) ≡ Some (Slot (kind_of b))) (sym u.1) (new_slots i p g group is u.0 g' group' u.2 is' j b s)
    ]

zero_slots : (i : Image) (p : List Cell) (bs : List ℕ) → Pairs (CellHolds i p) (map (λ b. Slot (kind_of b)) bs) (replicate (length bs) (pos 0))
zero_slots i p [] = tt
zero_slots i p (b ∷ bs) = (zero_word i p b, zero_slots i p bs)

-- a new object, where it fits
pub heap_made : (i : Image) (capacity : ℕ) (p : List Cell) (h : List ℤ) (g : ℕ) (group : Group) → slice_get i.groups g ≡ Some group → HeapOk i capacity p h → length (h ++ object_cells g group) ≤ capacity → HeapOk i capacity (p ++ object_plan g group) (h ++ object_cells g group)
heap_made i capacity p h g group is ok le =
    let q = p ++ object_plan g group in
    record {
      cells = pairs_both (CellHolds i q) p (object_plan g group) h (object_cells g group) (pairs_map (CellHolds i p) (CellHolds i q) (λ c z w. cell_later i p q c z (plan_grows p (object_plan g group)) w) p h ok.cells) (tt, zero_slots i q group.slots);
      plan = plan_made i p g group is ok.plan;
      small = le;
      bound = ok.bound;
    }

pub new_ref : (i : Image) (capacity : ℕ) (p : List Cell) (h : List ℤ) (k g : ℕ) (group : Group) → HeapOk i capacity p h → Views i k g → IsWord i (p ++ object_plan g group) kind.Reference (ref_word k (length h))
new_ref i capacity p h k g group ok v =
    let l : length p ≡ length h = pairs_long (CellHolds i p) p h ok.cells in
    let e : length p + 0 ≡ length h = omega arith in
    let f : slice_get (p ++ object_plan g group) (length h) ≡ Some (First g) =
    ap (slice_get (p ++ object_plan g group)) (sym e) ∙ get_right p (object_plan g group) 0 in
    inr (record { view = k; cell = length h }, record { group = g; views = v; first = f }, refl)
