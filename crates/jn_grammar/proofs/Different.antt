-- Lists of different numbers, and how many there can be.
use Rattle.std.proofs.Common.{◌≡◌, ℕ, zero, suc, ◌≤◌, ◌<◌, Bool, true, false, List, [], ◌∷◌, ◌++◌, length, Some, refl, sym, ap, subst, arith, if◌then◌else◌}
use Rattle.std.specs.Prelude.{slice_get, eqb, All, Contains}
use Rattle.std.proofs.lemmas.Bool.{eq-eqb, eqb-true}
use Rattle.std.proofs.lemmas.List.Elements.{All-nil, All-cons, All-head, All-tail}
use Rattle.jn_base.specs.Spelling.{HasDifferent}
use Rattle.jn_grammar.specs.TokenLimits.{has}

-- one of the list
pub data Mem (n : ℕ) : List ℕ → Type 0 where
  first : {xs : List ℕ} → Mem n (n ∷ xs)
  later : {m : ℕ} {xs : List ℕ} → Mem n xs → Mem n (m ∷ xs)

abbrev pub NoTwice : List ℕ → Type 0
NoTwice [] = Unit {0}
NoTwice (x ∷ xs) = (Mem x xs → ⊥) × NoTwice xs

pub mem_append_left : {n : ℕ} {xs : List ℕ} → Mem n xs → (ys : List ℕ) → Mem n (xs ++ ys)
mem_append_left first ys = first
mem_append_left (later i) ys = later (mem_append_left i ys)

pub mem_append_right : {n : ℕ} {ys : List ℕ} (xs : List ℕ) → Mem n ys → Mem n (xs ++ ys)
mem_append_right [] i = i
mem_append_right (x ∷ xs) i = later (mem_append_right xs i)

-- by a test
pub has_mem : (xs : List ℕ) (n : ℕ) → has xs n ≡ true → Mem n xs
has_mem [] n h = cc
has_mem (m ∷ ms) n h = by_bool (eqb m n) refl h (has_mem ms n)
  where
    by_bool : (c : Bool) → eqb m n ≡ c → (if c then true else has ms n) ≡ true → (has ms n ≡ true → Mem n ms) → Mem n (m ∷ ms)
    by_bool true e h r = subst (λ (k : ℕ). Mem n (k ∷ ms)) (sym (eqb-true m n e)) first
    by_bool false e h r = later (r h)

pub mem_has : {n : ℕ} {xs : List ℕ} → Mem n xs → has xs n ≡ true
mem_has {n = n} (first {xs}) = ap (λ (c : Bool). if c then true else has xs n) (eq-eqb n n refl)
mem_has {n = n} (later {m} {xs} i) = by_bool (eqb m n) (mem_has i)
  where
    by_bool : (c : Bool) → has xs n ≡ true → (if c then true else has xs n) ≡ true
    by_bool true h = refl
    by_bool false h = h

-- as the definition says it
pub contains_mem : (xs : List ℕ) (n : ℕ) → Contains xs n → Mem n xs
contains_mem [] n (k, l, e) = absurd (omega (arith, l))
contains_mem (x ∷ xs) n (zero, l, e) = subst (λ (m : ℕ). Mem n (m ∷ xs)) (sym e) first
contains_mem (x ∷ xs) n (suc k, l, e) = later (contains_mem xs n (k, (let r : k < length xs = omega (arith, l) in r), e))

pub mem_contains : {n : ℕ} {xs : List ℕ} → Mem n xs → Contains xs n
mem_contains first = (0, omega arith, refl)
mem_contains (later i) = let c = mem_contains i in (suc c.0, (let l = c.1 in omega (arith, l)), c.2)

pub mem_at : (xs : List ℕ) (i n : ℕ) → slice_get xs i ≡ Some n → Mem n xs
mem_at [] i n e = cc
mem_at (x ∷ xs) zero n e = subst (λ (m : ℕ). Mem n (m ∷ xs)) (some_is (sym e)) first
  where
    some_is : Some n ≡ Some x → n ≡ x
    some_is e = cc
mem_at (x ∷ xs) (suc i) n e = later (mem_at xs i n e)

pub record IsAt (xs : List ℕ) (n : ℕ) : Type 0 where
  pub index : ℕ
  pub there : slice_get xs index ≡ Some n

pub at_of : {n : ℕ} {xs : List ℕ} → Mem n xs → IsAt xs n
at_of first = record { index = 0; there = refl }
at_of (later i) = let r = at_of i in record { index = suc r.index; there = r.there }

zero_not : (i : ℕ) → 0 ≡ suc i → ⊥
zero_not i e = omega (arith, e)

pub different_no_twice : (xs : List ℕ) → ((i j n : ℕ) → slice_get xs i ≡ Some n → slice_get xs j ≡ Some n → i ≡ j) → NoTwice xs
different_no_twice [] h = tt
different_no_twice (x ∷ xs) h = (
  (λ m. (let r = at_of m in zero_not r.index (h 0 (suc r.index) x refl r.there))),
  different_no_twice xs (λ i j n a b. (let e = h (suc i) (suc j) n a b in omega (arith, e))),
)

pub no_twice_different : (xs : List ℕ) → NoTwice xs → (i j n : ℕ) → slice_get xs i ≡ Some n → slice_get xs j ≡ Some n → i ≡ j
no_twice_different [] t i j n a b = cc
no_twice_different (x ∷ xs) t zero zero n a b = refl
no_twice_different (x ∷ xs) t zero (suc j) n a b = absurd (t.0 (subst (λ (m : ℕ). Mem m xs) (some_is (sym a)) (mem_at xs j n b)))
  where
    some_is : Some n ≡ Some x → n ≡ x
    some_is e = cc
no_twice_different (x ∷ xs) t (suc i) zero n a b = absurd (t.0 (subst (λ (m : ℕ). Mem m xs) (some_is (sym b)) (mem_at xs i n a)))
  where
    some_is : Some n ≡ Some x → n ≡ x
    some_is e = cc
no_twice_different (x ∷ xs) t (suc i) (suc j) n a b = ap suc (no_twice_different xs t.1 i j n a b)

-- ---- no more different numbers than there are

record Without (x : ℕ) (ys : List ℕ) : Type 0 where
  rest : List ℕ
  shorter : length ys ≡ suc (length rest)
  keeps : (n : ℕ) → Mem n ys → (n ≡ x → ⊥) → Mem n rest

without : {x : ℕ} {ys : List ℕ} → Mem x ys → Without x ys
without {x} (first {xs}) = record { rest = xs; shorter = refl; keeps = λ n m d. by_mem m d }
  where
    by_mem : {n : ℕ} → Mem n (x ∷ xs) → (n ≡ x → ⊥) → Mem n xs
    by_mem first d = absurd (d refl)
    by_mem (later i) d = i
without {x} (later {m = y} {xs} i) =
    let r = without i in
    record { rest = y ∷ r.rest; shorter = ap suc r.shorter; keeps = λ n m d. by_mem r m d }
  where
    by_mem : (r : Without x xs) {n : ℕ} → Mem n (y ∷ xs) → (n ≡ x → ⊥) → Mem n (y ∷ r.rest)
    by_mem r first d = first
    by_mem r {n} (later j) d = later (r.keeps n j d)

pub no_more : (xs ys : List ℕ) → NoTwice xs → ((n : ℕ) → Mem n xs → Mem n ys) → length xs ≤ length ys
no_more [] ys t h = omega arith
no_more (x ∷ xs) ys t h =
    let r = without (h x first) in
    let l = no_more xs r.rest t.1 (λ n m. r.keeps n (h n (later m)) (λ e. t.0 (subst (λ (k : ℕ). Mem k xs) e m))) in
    omega (arith, l, r.shorter)

-- ---- the definition of so many different ones

none_of : {n : ℕ} → Mem n [] → ⊥
none_of i = elim i [ ]

all_mem : (xs ys : List ℕ) → All (λ n. Contains ys n) xs → (n : ℕ) → Mem n xs → Mem n ys
all_mem [] ys a n i = absurd (none_of i)
all_mem (x ∷ xs) ys a n first = contains_mem ys x (All-head (λ n. Contains ys n) x xs a)
all_mem (x ∷ xs) ys a n (later i) = all_mem xs ys (All-tail (λ n. Contains ys n) x xs a) n i

-- not more than a list that has them all
pub at_most : (count : ℕ) (numbers ys : List ℕ) → ((n : ℕ) → Mem n numbers → Mem n ys) → length ys < count → HasDifferent count numbers → ⊥
at_most count numbers ys h l d =
    let r = no_more d.picked ys (different_no_twice d.picked d.different) (λ n m. h n (all_mem d.picked numbers d.among n m)) in
    omega (arith, r, l, d.are)

mem_all : (xs ys : List ℕ) → ((n : ℕ) → Mem n xs → Mem n ys) → All (λ n. Contains ys n) xs
mem_all [] ys h = All-nil (λ n. Contains ys n)
mem_all (x ∷ xs) ys h = All-cons (λ n. Contains ys n) x xs (mem_contains (h x first)) (mem_all xs ys (λ n m. h n (later m)))

pub so_many : (count : ℕ) (numbers xs : List ℕ) → NoTwice xs → length xs ≡ count → ((n : ℕ) → Mem n xs → Mem n numbers) → HasDifferent count numbers
so_many count numbers xs t e h = record { picked = xs; are = e; different = no_twice_different xs t; among = mem_all xs numbers h }
