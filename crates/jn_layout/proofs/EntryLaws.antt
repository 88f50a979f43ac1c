-- The entries of a row by their keys.
use Rattle.std.proofs.Common.{◌≡◌, ◌<◌, ◌≤◌, ◌+◌, ◌⊎◌, inl, inr, ℕ, suc, List, [], ◌∷◌, length, map, Contains, Option, Some, cond, Bool, true, false, nat_eq, ◌||◌, refl, sym, subst, ap, ◌∙◌, arith}
use Rattle.std.specs.List.{find, list_any, AllByRecursion, IsDistinct}
use Rattle.std.proofs.lemmas.Map.Steps.{length-le_from_distinct_below}
use Rattle.std.specs.Option.{option_map}
use Rattle.std.specs.declared.cmp.Ordering.{Ordering}
use Rattle.std.specs.declared.cmp.Ordering.TheVariants.{Less, Equal, Greater}
use Rattle.std.specs.List.Sorted.{IsStrictlySortedBy}
use Rattle.std.specs.Ordering.{nat_cmp, ordering_then}
use Rattle.std.specs.Cmp.{nat_cmp_is}
use Rattle.std.proofs.lemmas.Bool.{cases_lt, eqb-true}
use Rattle.std.proofs.Math.Dec.{eqb}
use Rattle.std.proofs.lemmas.Bool.Decides.{nat_tests}
use Rattle.jn_reach.specs.Each.{Each, none, more}
use Rattle.jn_reach.proofs.Eachs.{Each-length}
use Rattle.jn_base.proofs.NameTests.{in_cons, in_none, first, later}
use Rattle.jn_code.specs.Form.{Ascends, IsBelowFirst}
use Rattle.jn_layout.specs.declared.pairs.Pair.{Pair}
use Rattle.jn_layout.specs.Pairs.{pair_cmp, pair_key, pair_value, AreEntries}
use Rattle.jn_layout.specs.RowLists.{IsEntryOf}

-- ---- pairs with one value for a key ascend by their keys

greater_then : (a b : ℕ) (s : Ordering) → b < a → ordering_then (nat_cmp a b) s ≡ Less → ⊥
greater_then a b s l e = let h : ordering_then Greater s ≡ Less = subst (λ (r : Ordering). ordering_then r s ≡ Less) (sym (nat_cmp_is a b Greater l)) e in cc h

itself : (x : Pair) → pair_cmp x x ≡ Less → ⊥
itself x e =
    let k : nat_cmp x.key x.key ≡ Equal = sym (nat_cmp_is x.key x.key Equal refl) in
    let v : nat_cmp x.value x.value ≡ Equal = sym (nat_cmp_is x.value x.value Equal refl) in
    let h : ordering_then Equal Equal ≡ Less =
    subst (λ (r : Ordering). ordering_then r Equal ≡ Less) k (subst (λ (s : Ordering). ordering_then (nat_cmp x.key x.key) s ≡ Less) v e) in
    cc h

key_below : (x y : Pair) → (x.key ≡ y.key → x ≡ y) → pair_cmp x y ≡ Less → x.key < y.key
key_below x y one e = by_side (cases_lt x.key y.key) where
  by_other : (y.key < x.key) ⊎ (x.key ≤ y.key) → (y.key ≤ x.key) → x.key < y.key
  by_other (inl l) m = absurd (greater_then x.key y.key (nat_cmp x.value y.value) l e)
  by_other (inr l) m =
      let same : x ≡ y = one (omega (arith, l, m)) in
      absurd (itself y (subst (λ (z : Pair). pair_cmp z y ≡ Less) same e))

  by_side : (x.key < y.key) ⊎ (y.key ≤ x.key) → x.key < y.key
  by_side (inl l) = l
  by_side (inr l) = by_other (cases_lt y.key x.key) l

abbrev pub OneValue : List Pair → Type 0
OneValue pairs = (x y : Pair) → Contains pairs x → Contains pairs y → x.key ≡ y.key → x ≡ y

below_first : (x : Pair) (ys : List Pair) → OneValue (x ∷ ys) → AllByRecursion (λ y. pair_cmp x y ≡ Less) ys → IsBelowFirst x.key (map pair_key ys)
below_first x [] one all = tt
below_first x (y ∷ ys) one (now, rest) = key_below x y (one x y (first x (y ∷ ys)) (later x (y ∷ ys) y (first y ys))) now

pub keys_ascend : (pairs : List Pair) → OneValue pairs → IsStrictlySortedBy pair_cmp pairs → Ascends (map pair_key pairs)
unfolding IsStrictlySortedBy
keys_ascend [] one s = tt
keys_ascend (x ∷ ys) one (now, rest) = (below_first x ys one now, keys_ascend ys (λ a b c d. one a b (later x ys a c) (later x ys b d)) rest)

-- ---- a list that ascends below a number is no longer than it

tail_above : (x : ℕ) (xs : List ℕ) → IsBelowFirst x xs → Ascends xs → (y : ℕ) → Contains xs y → suc x ≤ y
tail_above x [] now rest y c = absurd (in_none y c)
tail_above x (z ∷ zs) now (next, others) y c = by_place (in_cons z zs y c) (λ d. tail_above z zs next others y d) where
  by_place : (z ≡ y) ⊎ Contains zs y → (Contains zs y → suc z ≤ y) → suc x ≤ y
  by_place (inl e) k = omega (arith, now, e)
  by_place (inr d) k = let h = k d in omega (arith, now, h)

low_count : (xs : List ℕ) (low bound : ℕ) → Ascends xs → ((x : ℕ) → Contains xs x → low ≤ x) → ((x : ℕ) → Contains xs x → x < bound) → low ≤ bound → low + length xs ≤ bound
low_count [] low bound up above below l = omega (arith, l)
low_count (x ∷ xs) low bound (now, rest) above below l =
    let at = above x (first x xs) in
    let under = below x (first x xs) in
    let more = low_count xs (suc x) bound rest (tail_above x xs now rest) (λ y c. below y (later x xs y c)) under in
    omega (arith, at, more)

pub count_below : (xs : List ℕ) (bound : ℕ) → Ascends xs → ((x : ℕ) → Contains xs x → x < bound) → length xs ≤ bound
count_below xs bound up below = let l = low_count xs 0 bound up (λ x c. omega arith) below (omega arith) in omega (arith, l)

-- ---- pairs of which no two have one value are no more than the values

not_eqb : (v w : ℕ) → (v ≡ w → ⊥) → eqb v w ≡ false
not_eqb v w apart = by_test (eqb v w) refl where
  by_test : (b : Bool) → eqb v w ≡ b → eqb v w ≡ false
  by_test true e = absurd (apart (eqb-true v w e))
  by_test false e = e

values_apart : (v : ℕ) (ys : List Pair) → ((y : Pair) → Contains ys y → v ≡ y.value → ⊥) → AllByRecursion (λ w. eqb v w ≡ false) (map pair_value ys)
values_apart v [] h = tt
values_apart v (y ∷ ys) h = (not_eqb v y.value (h y (first y ys)), values_apart v ys (λ z c. h z (later y ys z c)))

key_in : (ys : List Pair) (y : Pair) → Contains ys y → Contains (map pair_key ys) y.key
key_in [] y c = absurd (in_none y c)
key_in (z ∷ ys) y c = by_place (in_cons z ys y c) (λ d. key_in ys y d) where
  by_place : (z ≡ y) ⊎ Contains ys y → (Contains ys y → Contains (map pair_key ys) y.key) → Contains (map pair_key (z ∷ ys)) y.key
  by_place (inl e) f = subst (λ (k : ℕ). Contains (z.key ∷ map pair_key ys) k) (ap (λ (x : Pair). x.key) e) (first z.key (map pair_key ys))
  by_place (inr d) f = later z.key (map pair_key ys) y.key (f d)

distinct_values : (pairs : List Pair) → Ascends (map pair_key pairs) → ((x y : Pair) → Contains pairs x → Contains pairs y → x.value ≡ y.value → x.key ≡ y.key)
    → IsDistinct eqb (map pair_value pairs)
unfolding IsDistinct
distinct_values [] up one = tt
distinct_values (x ∷ ys) (now, rest) one = (
  values_apart x.value ys (λ y c e.
      let l = tail_above x.key (map pair_key ys) now rest y.key (key_in ys y c) in
      let k = one x y (first x ys) (later x ys y c) e in
      omega (arith, l, k)),
  distinct_values ys rest (λ a b c d. one a b (later x ys a c) (later x ys b d)),
)

any_below : (pairs : List Pair) (bound q : ℕ) → ((x : Pair) → Contains pairs x → x.value < bound) → list_any (eqb q) (map pair_value pairs) ≡ true → q < bound
any_below [] bound q low e = absurd (cc e)
any_below (x ∷ xs) bound q low e = by_test (eqb q x.value) refl (λ h. any_below xs bound q (λ y c. low y (later x xs y c)) h) where
  by_test : (b : Bool) → eqb q x.value ≡ b → (list_any (eqb q) (map pair_value xs) ≡ true → q < bound) → q < bound
  by_test true t f = let h = low x (first x xs) in let k = eqb-true q x.value t in omega (arith, h, k)
  by_test false t f = f (subst (λ (b : Bool). (b || list_any (eqb q) (map pair_value xs)) ≡ true) t e)

length_values : (xs : List Pair) → length (map pair_value xs) ≡ length xs
length_values [] = refl
length_values (x ∷ xs) = ap suc (length_values xs)

pub value_count : (pairs : List Pair) (bound : ℕ) → OneValue pairs → IsStrictlySortedBy pair_cmp pairs → ((x y : Pair) → Contains pairs x → Contains pairs y → x.value ≡ y.value → x.key ≡ y.key)
    → ((x : Pair) → Contains pairs x → x.value < bound) → length pairs ≤ bound
value_count pairs bound one order keys low =
    let l = length-le_from_distinct_below (map pair_value pairs) bound (distinct_values pairs (keys_ascend pairs one order) keys) (λ q e. any_below pairs bound q low e) in
    omega (arith, l, length_values pairs)

-- ---- the entry of a key

same_number : (a b : ℕ) → nat_eq a b ≡ true → a ≡ b
same_number a b e = grind (arith, nat_tests)

other_number : (a b : ℕ) → nat_eq a b ≡ false → a ≡ b → ⊥
other_number a b e h = absurd (grind (arith, nat_tests))

length_map : (xs : List Pair) → length (map pair_key xs) ≡ length xs
length_map [] = refl
length_map (x ∷ xs) = ap suc (length_map xs)

in_keys : (xs : List Pair) (k : ℕ) → Contains (map pair_key xs) k → (x : Pair) × Contains xs x × (x.key ≡ k)
in_keys [] k c = absurd (in_none k c)
in_keys (x ∷ xs) k c = by_place (in_cons x.key (map pair_key xs) k c) (λ d. in_keys xs k d) where
  by_place : (x.key ≡ k) ⊎ Contains (map pair_key xs) k → (Contains (map pair_key xs) k → (y : Pair) × Contains xs y × (y.key ≡ k)) → (y : Pair) × Contains (x ∷ xs) y × (y.key ≡ k)
  by_place (inl e) f = (x, first x xs, e)
  by_place (inr d) f = let r = f d in (r.0, later x xs r.0 r.1, r.2)

module _ {E : Type 0} (key value : E → ℕ) where
  keys_same : {pairs : List Pair} {es : List E} → Each (IsEntryOf key value) pairs es → map key es ≡ map pair_key pairs
  keys_same none = refl
  keys_same (more {x = x} {y = e} {xs = xs} {ys = es} r rest) = ap (λ (ks : List ℕ). key e ∷ ks) (keys_same rest) ∙ ap (λ (k : ℕ). k ∷ map pair_key xs) r.key_is

  abbrev told : List E → ℕ → Option ℕ
  told es k = option_map value (find (λ e. nat_eq (key e) k) es)

  record Told (pairs : List Pair) (k v : ℕ) : Type 0 where
    pair : Pair
    among : Contains pairs pair
    key_is : pair.key ≡ k
    value_is : pair.value ≡ v

  told_from : {pairs : List Pair} {es : List E} → Each (IsEntryOf key value) pairs es → (k v : ℕ) → told es k ≡ Some v → Told pairs k v
  told_from none k v e = absurd (cc e)
  told_from (more {x = x} {y = y} {xs = xs} {ys = ys} r rest) k v e = by_test (nat_eq (key y) k) refl e (λ h. told_from rest k v h) where
    by_test : (b : Bool) → nat_eq (key y) k ≡ b → option_map value (cond b (Some y) (find (λ (z : E). nat_eq (key z) k) ys)) ≡ Some v
        → (option_map value (find (λ (z : E). nat_eq (key z) k) ys) ≡ Some v → Told xs k v) → Told (x ∷ xs) k v
    by_test true t h f =
        let w : value y ≡ v = cc h in
        record { pair = x; among = first x xs; key_is = sym r.key_is ∙ same_number (key y) k t; value_is = sym r.value_is ∙ w }
    by_test false t h f = let o = f h in record { pair = o.pair; among = later x xs o.pair o.among; key_is = o.key_is; value_is = o.value_is }

  to_told : {pairs : List Pair} {es : List E} → Each (IsEntryOf key value) pairs es → (x : Pair) → Contains pairs x → (v : ℕ) × (told es x.key ≡ Some v)
  to_told none x c = absurd (in_none x c)
  to_told (more {x = z} {y = y} {xs = xs} {ys = ys} r rest) x c = by_test (nat_eq (key y) x.key) refl (λ d. to_told rest x d) where
    by_test : (b : Bool) → nat_eq (key y) x.key ≡ b → (Contains xs x → (v : ℕ) × (told ys x.key ≡ Some v)) → (v : ℕ) × (option_map value (cond (nat_eq (key y) x.key) (Some y) (find (λ (u : E). nat_eq (key u) x.key) ys)) ≡ Some v)
    by_test true t f = (value y, ap (λ (b : Bool). option_map value (cond b (Some y) (find (λ (u : E). nat_eq (key u) x.key) ys))) t)
    by_test false t f = by_place (in_cons z xs x c) where
      by_place : (z ≡ x) ⊎ Contains xs x → (v : ℕ) × (option_map value (cond (nat_eq (key y) x.key) (Some y) (find (λ (u : E). nat_eq (key u) x.key) ys)) ≡ Some v)
      by_place (inl e) = absurd (other_number (key y) x.key t (r.key_is ∙ ap (λ (u : Pair). u.key) e))
      by_place (inr d) = let o = f d in (o.0, ap (λ (b : Bool). option_map value (cond b (Some y) (find (λ (u : E). nat_eq (key u) x.key) ys))) t ∙ o.1)

  module _ (T : ℕ → ℕ → Type 0) (one : (k v w : ℕ) → T k v → T k w → v ≡ w) (pairs : List Pair) (are : AreEntries T pairs) (es : List E) (each : Each (IsEntryOf key value) pairs es) where
    one_value : OneValue pairs
    one_value x y c d e =
        let a = (are.exact x).0 c in
        let b = (are.exact y).0 d in
        let v : x.value ≡ y.value = one x.key x.value y.value a (subst (λ (k : ℕ). T k y.value) (sym e) b) in
        ap (λ (k : ℕ). record { key = k; value = x.value }) e ∙ ap (λ (n : ℕ). record { key = y.key; value = n }) v

    pub entries_ascend : Ascends (map key es)
    entries_ascend = subst Ascends (sym (keys_same each)) (keys_ascend pairs one_value are.in_order)

    pub entries_sound : (k v : ℕ) → told es k ≡ Some v → T k v
    entries_sound k v e =
        let o = told_from each k v e in
        subst (λ (a : ℕ). T a v) o.key_is (subst (T o.pair.key) o.value_is ((are.exact o.pair).0 o.among))

    pub entries_complete : (k v : ℕ) → T k v → told es k ≡ Some v
    entries_complete k v h =
        let c = (are.exact (record { key = k; value = v })).1 h in
        let o = to_told each (record { key = k; value = v }) c in
        o.1 ∙ ap Some (one k o.0 v (entries_sound k o.0 o.1) h)

    pub entries_values : (bound : ℕ) → ((j k v : ℕ) → T j v → T k v → j ≡ k) → ((x : Pair) → Contains pairs x → x.value < bound) → length es ≤ bound
    entries_values bound other low =
        let l = value_count pairs bound one_value are.in_order
        (λ x y c d e. other x.key y.key y.value (subst (T x.key) e ((are.exact x).0 c)) ((are.exact y).0 d)) low in
        omega (arith, l, Each-length (IsEntryOf key value) each)

    pub entries_count : (bound : ℕ) → ((k v : ℕ) → T k v → k < bound) → length es ≤ bound
    entries_count bound low =
        let n : length es ≡ length pairs = Each-length (IsEntryOf key value) each in
        let m : length (map pair_key pairs) ≡ length pairs = length_map pairs in
        let l = count_below (map pair_key pairs) bound (keys_ascend pairs one_value are.in_order) (λ k c. let p = in_keys pairs k c in subst (λ (a : ℕ). a < bound) p.2 (low p.0.key p.0.value ((are.exact p.0).0 p.1))) in
        omega (arith, n, m, l)
