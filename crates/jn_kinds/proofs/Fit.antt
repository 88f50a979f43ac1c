-- Values of a kind, and a heap whose cells hold values of theirs.
use Rattle.std.proofs.Common.{◌≡◌, refl, sym, ap, ◌∙◌, ℕ, zero, suc, ◌+◌, ◌*◌, ◌%◌, ◌<◌, ◌≤◌, List, [], ◌∷◌, ◌++◌, length, map, replicate, pos, Some, slice_get, slice_set, arith, subst}
use Rattle.std.proofs.lemmas.Nat.{mod-mul-add}
use Rattle.jn_code.specs.declared.kind.OperandKind.{OperandKind}
use Rattle.jn_code.specs.declared.kind.OperandKind.TheVariants as kind
use Rattle.jn_code.specs.declared.image.Image.{Image}
use Rattle.jn_code.specs.declared.image.Group.{Group}
use Rattle.jn_code.specs.Kinds.{kind_of}
use Rattle.jn_code.specs.Machine as plain
use Rattle.jn_code.specs.Going.{Cell, First, Slot, Views, IsRef, PlanOk}
use Rattle.jn_code.proofs.Words.{Later, ref_later, object_plan, plan_grows, plan_made, get_right}
use Rattle.jn_kinds.specs.Values.{Value, Number, Truth, NoObject, Object, Class, word, words, kind_of_value, zero_of, Held, Head, Holds, held_word}
use Rattle.jn_kinds.specs.Careful.{Heap, object_cells}

-- what a value names is there
abbrev pub Names : Image → List Cell → Value → Type 0
Names i p (Number z) = Unit {0}
Names i p (Truth b) = Unit {0}
Names i p NoObject = Unit {0}
Names i p (Object view cell) = IsRef i p (record { view = view; cell = cell })
Names i p (Class k) = k < length i.classes

pub record IsVal (i : Image) (p : List Cell) (k : OperandKind) (v : Value) : Type 0 where
  pub kind : kind_of_value v ≡ k
  pub names : Names i p v

-- what is on the left goes with what is on the right, one by one
abbrev pub Pairs : {A B : Type 0} → (A → B → Type 0) → List A → List B → Type 0
Pairs R [] [] = Unit {0}
Pairs R [] (b ∷ bs) = ⊥
Pairs R (a ∷ rest) [] = ⊥
Pairs R (a ∷ rest) (b ∷ bs) = R a b × Pairs R rest bs

pub record AreVals (i : Image) (p : List Cell) (ks : List OperandKind) (vs : List Value) : Type 0 where
  pub are : Pairs (IsVal i p) ks vs

abbrev pub CellFits : Image → List Cell → Cell → Held → Type 0
CellFits i p (First g) (Head h) = g ≡ h
CellFits i p (First g) (Holds v) = ⊥
CellFits i p (Slot k) (Head h) = ⊥
CellFits i p (Slot k) (Holds v) = IsVal i p k v

pub record HeapFits (i : Image) (capacity : ℕ) (p : List Cell) (h : Heap) : Type 0 where
  pub cells : Pairs (CellFits i p) p h
  pub plan : PlanOk i p
  pub small : length h ≤ capacity
  pub bound : capacity < 4294967296

names_later : (i : Image) (p q : List Cell) (v : Value) → Later p q → Names i p v → Names i q v
names_later i p q (Number z) l n = tt
names_later i p q (Truth b) l n = tt
names_later i p q NoObject l n = tt
names_later i p q (Object view cell) l n = ref_later i p q (record { view = view; cell = cell }) l n
names_later i p q (Class k) l n = n

pub val_later : (i : Image) (p q : List Cell) (k : OperandKind) (v : Value) → Later p q → IsVal i p k v → IsVal i q k v
val_later i p q k v l w = record { kind = w.kind; names = names_later i p q v l w.names }

pub cell_later : (i : Image) (p q : List Cell) (c : Cell) (x : Held) → Later p q → CellFits i p c x → CellFits i q c x
cell_later i p q (First g) (Head h) l w = w
cell_later i p q (First g) (Holds v) l w = w
cell_later i p q (Slot k) (Head h) l w = w
cell_later i p q (Slot k) (Holds v) l w = val_later i p q k v l w

pub pairs_map : {A B : Type 0} (R Q : A → B → Type 0) → ((a : A) (b : B) → R a b → Q a b) → (xs : List A) (ys : List B) → Pairs R xs ys → Pairs Q xs ys
pairs_map R Q f [] [] w = tt
pairs_map R Q f [] (b ∷ bs) w = absurd w
pairs_map R Q f (a ∷ xs) [] w = absurd w
pairs_map R Q f (a ∷ xs) (b ∷ bs) w = (f a b w.0, pairs_map R Q f xs bs w.1)

pub vals_later : (i : Image) (p q : List Cell) (ks : List OperandKind) (vs : List Value) → Later p q → AreVals i p ks vs → AreVals i q ks vs
vals_later i p q ks vs l w =
    record { are = pairs_map (IsVal i p) (IsVal i q) (λ k v u. val_later i p q k v l u) ks vs w.are }

pub pairs_long : {A B : Type 0} (R : A → B → Type 0) (xs : List A) (ys : List B) → Pairs R xs ys → length xs ≡ length ys
pairs_long R [] [] w = refl
pairs_long R [] (b ∷ bs) w = absurd w
pairs_long R (a ∷ xs) [] w = absurd w
pairs_long R (a ∷ xs) (b ∷ bs) w = ap suc (pairs_long R xs bs w.1)

pub pairs_get : {A B : Type 0} (R : A → B → Type 0) (xs : List A) (ys : List B) (n : ℕ) (a : A) → Pairs R xs ys → slice_get xs n ≡ Some a → (b : B) × (slice_get ys n ≡ Some b) × R a b
pairs_get R [] ys n a w e = absurd cc
pairs_get R (x ∷ xs) [] n a w e = absurd w
pairs_get {A} {B} R (x ∷ xs) (y ∷ ys) zero a w e =
    let q : x ≡ a = cc in (y, refl, subst (λ (a : A). R a y) q w.0)
pairs_get R (x ∷ xs) (y ∷ ys) (suc n) a w e = pairs_get R xs ys n a w.1 e

pub pairs_set : {A B : Type 0} (R : A → B → Type 0) (xs : List A) (ys : List B) (n : ℕ) (a : A) (b : B) → Pairs R xs ys → slice_get xs n ≡ Some a → R a b → Pairs R xs (slice_set ys n b)
pairs_set R [] [] n a b w e v = w
pairs_set R [] (y ∷ ys) n a b w e v = absurd w
pairs_set R (x ∷ xs) [] n a b w e v = absurd w
pairs_set {A} {B} R (x ∷ xs) (y ∷ ys) zero a b w e v =
    let q : x ≡ a = cc in (subst (λ (a : A). R a b) (sym q) v, w.1)
pairs_set R (x ∷ xs) (y ∷ ys) (suc n) a b w e v = (w.0, pairs_set R xs ys n a b w.1 e v)

pub pairs_both : {A B : Type 0} (R : A → B → Type 0) (xs ys : List A) (us vs : List B) → Pairs R xs us → Pairs R ys vs → Pairs R (xs ++ ys) (us ++ vs)
pairs_both R [] ys [] vs u v = v
pairs_both R [] ys (z ∷ us) vs u v = absurd u
pairs_both R (x ∷ xs) ys [] vs u v = absurd u
pairs_both R (x ∷ xs) ys (z ∷ us) vs u v = (u.0, pairs_both R xs ys us vs u.1 v)

pub zero_val : (i : Image) (p : List Cell) (b : ℕ) → IsVal i p (kind_of b) (zero_of (kind_of b))
zero_val i p zero = record { kind = refl; names = tt }
zero_val i p (suc zero) = record { kind = refl; names = tt }
zero_val i p (suc (suc zero)) = record { kind = refl; names = tt }
zero_val i p (suc (suc (suc n))) = record { kind = refl; names = tt }

pub zero_vals : (i : Image) (p : List Cell) (bs : List ℕ) → Pairs (IsVal i p) (map kind_of bs) (map (λ b. zero_of (kind_of b)) bs)
zero_vals i p [] = tt
zero_vals i p (b ∷ bs) = (zero_val i p b, zero_vals i p bs)

zero_slots : (i : Image) (p : List Cell) (bs : List ℕ) → Pairs (CellFits i p) (map (λ b. Slot (kind_of b)) bs) (map (λ b. Holds (zero_of (kind_of b))) bs)
zero_slots i p [] = tt
zero_slots i p (b ∷ bs) = (zero_val i p b, zero_slots i p bs)

-- a new object, where it fits
pub heap_made : (i : Image) (capacity : ℕ) (p : List Cell) (h : Heap) (g : ℕ) (group : Group) → slice_get i.groups g ≡ Some group → HeapFits i capacity p h → length (h ++ object_cells g group) ≤ capacity → HeapFits i capacity (p ++ object_plan g group) (h ++ object_cells g group)
heap_made i capacity p h g group is ok le =
    let q = p ++ object_plan g group in
    record {
      cells = pairs_both (CellFits i q) p (object_plan g group) h (object_cells g group) (pairs_map (CellFits i p) (CellFits i q) (λ c x w. cell_later i p q c x (plan_grows p (object_plan g group)) w) p h ok.cells) (refl, zero_slots i q group.slots);
      plan = plan_made i p g group is ok.plan;
      small = le;
      bound = ok.bound;
    }

pub new_val : (i : Image) (capacity : ℕ) (p : List Cell) (h : Heap) (k g : ℕ) (group : Group) → HeapFits i capacity p h → Views i k g → IsVal i (p ++ object_plan g group) kind.Reference (Object k (length h))
new_val i capacity p h k g group ok v =
    let l : length p ≡ length h = pairs_long (CellFits i p) p h ok.cells in
    let e : length p + 0 ≡ length h = omega arith in
    let f : slice_get (p ++ object_plan g group) (length h) ≡ Some (First g) =
    ap (slice_get (p ++ object_plan g group)) (sym e) ∙ get_right p (object_plan g group) 0 in
    record { kind = refl; names = record { group = g; views = v; first = f } }

-- ---- words of values

zero_word : (b : ℕ) → word (zero_of (kind_of b)) ≡ pos 0
zero_word zero = refl
zero_word (suc zero) = refl
zero_word (suc (suc zero)) = refl
zero_word (suc (suc (suc n))) = refl

pub zero_words : (bs : List ℕ) → words (map (λ b. zero_of (kind_of b)) bs) ≡ replicate (length bs) (pos 0)
zero_words [] = refl
zero_words (b ∷ bs) = ap (λ z. z ∷ words (map (λ b. zero_of (kind_of b)) bs)) (zero_word b) ∙ ap (λ zs. pos 0 ∷ zs) (zero_words bs)

slot_words : (bs : List ℕ) → map held_word (map (λ b. Holds (zero_of (kind_of b))) bs) ≡ replicate (length bs) (pos 0)
slot_words [] = refl
slot_words (b ∷ bs) = ap (λ z. z ∷ map held_word (map (λ b. Holds (zero_of (kind_of b))) bs)) (zero_word b) ∙ ap (λ zs. pos 0 ∷ zs) (slot_words bs)

pub cells_words : (number : ℕ) (g : Group) → map held_word (object_cells number g) ≡ plain.object_cells number g
cells_words number g = ap (λ zs. pos number ∷ zs) (slot_words g.slots)

pub map_set : {A B : Type 0} (f : A → B) (xs : List A) (n : ℕ) (a : A) → map f (slice_set xs n a) ≡ slice_set (map f xs) n (f a)
map_set f [] n a = refl
map_set f (x ∷ xs) zero a = refl
map_set f (x ∷ xs) (suc n) a = ap (λ ys. f x ∷ ys) (map_set f xs n a)

-- the low bits of a reference's word tell the object
pub object_of : (view cell : ℕ) → cell + 1 < 4294967296 → plain.object_in (word (Object view cell)) ≡ cell + 1
object_of view cell low =
    let e : suc (view * 4294967296 + cell) ≡ view * 4294967296 + (cell + 1) = omega arith in
    ap (λ n. n % 4294967296) e ∙ mod-mul-add view 4294967296 (cell + 1) low
