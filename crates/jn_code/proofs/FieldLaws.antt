-- What a field reads is what was written, and what was written is read again, whatever follows it.
use Rattle.std.proofs.Common.{◌≡◌, ℕ, zero, suc, ◌+◌, ◌^◌, ◌<◌, ◌≤◌, Bool, true, false, cond, ltb, List, [], ◌∷◌, ◌++◌, length, map, get_or, take, drop, Result, Ok, Err, refl, sym, ap, subst, ◌∙◌, append_assoc, arith, inl, inr}
use Rattle.std.specs.List.{flat_map, AllByRecursion}
use Rattle.std.specs.Int.{Width, w16, w32, w64, byte_len, from_le_bytes, to_le_bytes}
use Rattle.std.proofs.lemmas.Bool.{cases_lt, ltb-false, le-ltb}
use Rattle.std.proofs.lemmas.List.{take_at, drop_at, take-append-drop, length-append, length-take, get_or-drop, get_or-take, get_or_past}
use Rattle.std.proofs.lemmas.Nat.{le_bytes_2, le_bytes_4, le_bytes_8, from_le_bytes-to_le_bytes_2, from_le_bytes-to_le_bytes_4, from_le_bytes-to_le_bytes_8}
use Rattle.jn_code.specs.SpellsFields.{Stop, Short, Reading, ◌>>=◌, Field, byte, raw, number, passing, done, part, last, listed, read_listed, ascending, read_ascending}

abbrev pub IsBytes : List ℕ → Type 0
IsBytes bytes = (i : ℕ) → get_or bytes i 0 < 256

pub IsBytes-drop : (n : ℕ) (bytes : List ℕ) → IsBytes bytes → IsBytes (drop n bytes)
IsBytes-drop n bytes h i = rw get_or-drop (h (n + i))

pub IsBytes-take : (n : ℕ) (bytes : List ℕ) → IsBytes bytes → IsBytes (take n bytes)
IsBytes-take n bytes h i =
    elim (cases_lt i n) [
      | inl lt ↦ rw (get_or-take n bytes i 0 lt) (h i)
      | inr le ↦ rw (get_or_past (take n bytes) i 0 (omega (arith, length-take n bytes))) (omega arith)
    ]

IsBytes-rest : (b : ℕ) (bytes : List ℕ) → IsBytes (b ∷ bytes) → IsBytes bytes
IsBytes-rest b bytes h i = h (suc i)

-- the value of a step that did not stop
pub bind_ok : {A B : Type 0} (r : Result A Stop) (f : A → Result B Stop) (y : B) → (r >>= f) ≡ Ok y → (x : A) × (r ≡ Ok x) × (f x ≡ Ok y)
bind_ok (Ok x) f y e = (x, refl, e)
bind_ok (Err d) f y e = absurd cc

-- a test that did not stop
guard_ok : {A : Type 0} (b : Bool) (d : Stop) (x y : A) → cond b (Err d) (Ok x) ≡ Ok y → (b ≡ false) × (x ≡ y)
guard_ok true d x y e = absurd cc
guard_ok false d x y e = (refl, cc)

test_ok : {A : Type 0} (b : Bool) (d : Stop) (x y : A) → cond b (Ok x) (Err d) ≡ Ok y → (b ≡ true) × (x ≡ y)
test_ok true d x y e = (refl, cc)
test_ok false d x y e = absurd cc

abbrev pub fine : {A : Type 0} → A → Result A Stop
fine x = Ok x

pub ok_is : {A : Type 0} (x y : A) → fine x ≡ fine y → x ≡ y
ok_is x y e = cc

-- what a reader took from the front
pub record Takes (bytes text rest : List ℕ) : Type 0 where
  pub parts : bytes ≡ text ++ rest
  pub rest_fits : IsBytes rest

Takes-then : (a x b y c : List ℕ) → Takes a x b → Takes b y c → Takes a (x ++ y) c
Takes-then a x b y c p q = record { parts = p.parts ∙ ap (λ (t : List ℕ). x ++ t) q.parts ∙ sym (append_assoc x y c); rest_fits = q.rest_fits }

-- The field is one of the values with P: it reads those alone, each from its own bytes.
pub record IsField {A : Type 0} (f : Field A) (P : A → Type 0) : Type 0 where
  pub takes : (bytes : List ℕ) (x : A) (rest : List ℕ) → IsBytes bytes → f.read bytes ≡ Ok (x, rest) → Takes bytes (f.spelled x) rest × P x
  pub again : (x : A) (rest : List ℕ) → P x → f.read (f.spelled x ++ rest) ≡ Ok (x, rest)

pub same_field : {A : Type 0} (f : Field A) (P Q : A → Type 0) → IsField f P → ((x : A) → P x → Q x) → ((x : A) → Q x → P x) → IsField f Q
same_field f P Q law there back = record {
  takes = λ bytes x rest fits e. let t = law.takes bytes x rest fits e in (t.0, there x t.1);
  again = λ x rest q. law.again x rest (back x q);
}

-- ---- one value

byte_takes : (bytes : List ℕ) (x : ℕ) (rest : List ℕ) → IsBytes bytes → byte.read bytes ≡ Ok (x, rest) → Takes bytes (x ∷ []) rest × (x < 256)
byte_takes [] x rest fits e = absurd cc
byte_takes (b ∷ bytes) x rest fits e =
    subst (λ (y : ℕ × List ℕ). Takes (b ∷ bytes) (y.0 ∷ []) y.1 × (y.0 < 256)) (ok_is (b, bytes) (x, rest) e) (record { parts = refl; rest_fits = IsBytes-rest b bytes fits }, fits 0)

pub byte_law : IsField byte (λ b. b < 256)
byte_law = record { takes = byte_takes; again = λ x rest lt. refl }

front_takes : (n : ℕ) (bytes : List ℕ) → IsBytes bytes → Takes bytes (take n bytes) (drop n bytes)
front_takes n bytes fits = record { parts = sym (take-append-drop n bytes); rest_fits = IsBytes-drop n bytes fits }

raw_takes : (n : ℕ) (bytes : List ℕ) (x : List ℕ) (rest : List ℕ) → IsBytes bytes → (raw n).read bytes ≡ Ok (x, rest) → Takes bytes x rest × (length x ≡ n)
raw_takes n bytes x rest fits e =
    let g = guard_ok (ltb (length bytes) n) (Short (length bytes)) (take n bytes, drop n bytes) (x, rest) e in
    let long : n ≤ length bytes = ltb-false _ _ g.0 in
    let len : length (take n bytes) ≡ n = omega (arith, length-take n bytes) in
    subst (λ (y : List ℕ × List ℕ). Takes bytes y.0 y.1 × (length y.0 ≡ n)) g.1 (front_takes n bytes fits, len)

raw_again : (n : ℕ) (x : List ℕ) (rest : List ℕ) → length x ≡ n → (raw n).read (x ++ rest) ≡ Ok (x, rest)
raw_again n x rest len =
    let long : ltb (length (x ++ rest)) n ≡ false = le-ltb _ _ (omega (arith, length-append x rest)) in
    rw (long, take_at x rest n len, drop_at x rest n len) refl

pub raw_law : (n : ℕ) → IsField (raw n) (λ x. length x ≡ n)
raw_law n = record { takes = raw_takes n; again = raw_again n }

-- ---- numbers

pub record IsWide (w : Width) (limit : ℕ) : Type 0 where
  pub len : (n : ℕ) → length (to_le_bytes w n) ≡ byte_len w
  pub back : (bytes : List ℕ) → length bytes ≡ byte_len w → IsBytes bytes → to_le_bytes w (from_le_bytes w bytes) ≡ bytes
  pub again : (n : ℕ) → n < limit → from_le_bytes w (to_le_bytes w n) ≡ n
  pub below : (bytes : List ℕ) → IsBytes bytes → from_le_bytes w bytes < limit

pub wide16 : IsWide w16 65536
wide16 = record {
  len = λ n. refl;
  back = λ bytes len fits. le_bytes_2 bytes _ len fits refl;
  again = λ n lt. from_le_bytes-to_le_bytes_2 n lt;
  below = λ bytes fits. omega (arith, fits 0, fits 1);
}

pub wide32 : IsWide w32 4294967296
wide32 = record {
  len = λ n. refl;
  back = λ bytes len fits. le_bytes_4 bytes _ len fits refl;
  again = λ n lt. from_le_bytes-to_le_bytes_4 n lt;
  below = λ bytes fits. omega (arith, fits 0, fits 1, fits 2, fits 3);
}

pub wide64 : IsWide w64 (2 ^ 64)
wide64 = record {
  len = λ n. refl;
  back = λ bytes len fits. le_bytes_8 bytes _ len fits refl;
  again = λ n lt. from_le_bytes-to_le_bytes_8 n lt;
  below = λ bytes fits. omega (arith, fits 0, fits 1, fits 2, fits 3, fits 4, fits 5, fits 6, fits 7);
}

number_takes : (w : Width) (limit : ℕ) (wide : IsWide w limit) (bytes : List ℕ) (n : ℕ) (rest : List ℕ) → IsBytes bytes → (number w).read bytes ≡ Ok (n, rest) → Takes bytes (to_le_bytes w n) rest × (n < limit)
number_takes w limit wide bytes n rest fits e =
    let g = guard_ok (ltb (length bytes) (byte_len w)) (Short (length bytes)) (from_le_bytes w (take (byte_len w) bytes), drop (byte_len w) bytes) (n, rest) e in
    let long : byte_len w ≤ length bytes = ltb-false _ _ g.0 in
    let front-fits = IsBytes-take (byte_len w) bytes fits in
    let front : to_le_bytes w (from_le_bytes w (take (byte_len w) bytes)) ≡ take (byte_len w) bytes = wide.back (take (byte_len w) bytes) (omega (arith, length-take (byte_len w) bytes)) front-fits in
    let taken : Takes bytes (to_le_bytes w (from_le_bytes w (take (byte_len w) bytes))) (drop (byte_len w) bytes) = rw front (front_takes (byte_len w) bytes fits) in
    subst (λ (y : ℕ × List ℕ). Takes bytes (to_le_bytes w y.0) y.1 × (y.0 < limit)) g.1 (taken, wide.below (take (byte_len w) bytes) front-fits)

number_again : (w : Width) (limit : ℕ) (wide : IsWide w limit) (n : ℕ) (rest : List ℕ) → n < limit → (number w).read (to_le_bytes w n ++ rest) ≡ Ok (n, rest)
number_again w limit wide n rest lt =
    let len = wide.len n in
    let long : ltb (length (to_le_bytes w n ++ rest)) (byte_len w) ≡ false = le-ltb _ _ (omega (arith, length-append (to_le_bytes w n) rest)) in
    rw (long, take_at (to_le_bytes w n) rest (byte_len w) len, drop_at (to_le_bytes w n) rest (byte_len w) len, wide.again n lt) refl

number_law : (w : Width) (limit : ℕ) → IsWide w limit → IsField (number w) (λ n. n < limit)
number_law w limit wide = record { takes = number_takes w limit wide; again = number_again w limit wide }

pub law16 : IsField (number w16) (λ n. n < 65536)
law16 = number_law w16 65536 wide16

pub law32 : IsField (number w32) (λ n. n < 4294967296)
law32 = number_law w32 4294967296 wide32

pub law64 : IsField (number w64) (λ n. n < 2 ^ 64)
law64 = number_law w64 (2 ^ 64) wide64

-- ---- a condition

pub passing_law : {A : Type 0} (test : A → Bool) (stop : ℕ → Stop) (f : Field A) (P : A → Type 0) → IsField f P → IsField (passing test stop f) (λ x. P x × (test x ≡ true))
passing_law {A} test stop f P law = record {
  takes = λ bytes x rest fits e.
      let a = bind_ok (f.read bytes) (λ y. cond (test y.0) (Ok y) (Err (stop (length bytes)))) (x, rest) e in
      let g = test_ok (test a.0.0) (stop (length bytes)) a.0 (x, rest) a.2 in
      let t = law.takes bytes a.0.0 a.0.1 fits a.1 in
      subst (λ (y : A × List ℕ). Takes bytes (f.spelled y.0) y.1 × (P y.0 × (test y.0 ≡ true))) g.1 (t.0, (t.1, g.0));
  again = λ x rest h. rw (law.again x rest h.0, h.1) refl;
}

-- ---- one behind another

pub done_law : {A : Type 0} (x : A) → IsField (done x) (λ s. s ≡ x)
done_law {A} x = record {
  takes = λ bytes s rest fits e. subst (λ (y : A × List ℕ). Takes bytes [] y.1 × (y.0 ≡ x)) (ok_is (x, bytes) (s, rest) e) (record { parts = refl; rest_fits = fits }, refl);
  again = λ s rest h. rw h refl;
}

pub part_law : {A S : Type 0} {of : S → A} {first : Field A} {next : A → Field S} {P : A → Type 0} {Q : A → S → Type 0}
    → IsField first P → ((x : A) → IsField (next x) (Q x)) → ((x : A) (s : S) → P x → Q x s → of s ≡ x) → IsField (part of first next) (λ s. P (of s) × Q (of s) s)
unfolding part
part_law {A} {S} {of} {first} {next} {P} {Q} one two back = record {
  takes = λ bytes s rest fits e.
      let a = bind_ok (first.read bytes) (λ x. (next x.0).read x.1) (s, rest) e in
      let t = one.takes bytes a.0.0 a.0.1 fits a.1 in
      let u = (two a.0.0).takes a.0.1 s rest t.0.rest_fits a.2 in
      let both = Takes-then bytes (first.spelled a.0.0) a.0.1 ((next a.0.0).spelled s) rest t.0 u.0 in
      subst (λ (y : A). Takes bytes (first.spelled y ++ (next y).spelled s) rest × (P y × Q y s)) (sym (back a.0.0 s t.1 u.1)) (both, (t.1, u.1));
  again = λ s rest h.
      ap (λ (bytes : List ℕ). first.read bytes >>= λ x. (next x.0).read x.1) (append_assoc (first.spelled (of s)) ((next (of s)).spelled s) rest)
      ∙ ap (λ (r : Reading A). r >>= λ x. (next x.0).read x.1) (one.again (of s) ((next (of s)).spelled s ++ rest) h.0)
      ∙ (two (of s)).again s rest h.1;
}

pub last_law : {A S : Type 0} {of : S → A} {field : Field A} {P : A → Type 0} (make : A → S)
    → IsField field P → ((x : A) → of (make x) ≡ x) → IsField (last of field make) (λ s. P (of s) × (s ≡ make (of s)))
unfolding last
last_law {A} {S} {of} {field} {P} make law back = record {
  takes = λ bytes s rest fits e.
      let a = bind_ok (field.read bytes) (λ x. Ok (make x.0, x.1)) (s, rest) e in
      let t = law.takes bytes a.0.0 a.0.1 fits a.1 in
      let b = back a.0.0 in
      let here : Takes bytes (field.spelled (of (make a.0.0))) a.0.1 × (P (of (make a.0.0)) × (make a.0.0 ≡ make (of (make a.0.0)))) =
      subst (λ (y : A). Takes bytes (field.spelled y) a.0.1 × (P y × (make a.0.0 ≡ make y))) (sym b) (t.0, (t.1, refl)) in
      subst (λ (y : S × List ℕ). Takes bytes (field.spelled (of y.0)) y.1 × (P (of y.0) × (y.0 ≡ make (of y.0)))) (ok_is (make a.0.0, a.0.1) (s, rest) a.2) here;
  again = λ s rest h.
      ap (λ (r : Reading A). r >>= λ x. Ok (make x.0, x.1)) (law.again (of s) rest h.0)
      ∙ ap (λ (y : S). Ok (y, rest)) (sym h.1);
}

-- ---- lists

listed_takes : {A : Type 0} (item : Field A) (P : A → Type 0) → IsField item P → (n : ℕ) (bytes : List ℕ) (xs : List A) (rest : List ℕ) → IsBytes bytes
    → read_listed item.read n bytes ≡ Ok (xs, rest) → Takes bytes (flat_map item.spelled xs) rest × ((length xs ≡ n) × AllByRecursion P xs)
unfolding read_listed
listed_takes {A} item P law zero bytes xs rest fits e =
    subst (λ (y : List A × List ℕ). Takes bytes (flat_map item.spelled y.0) y.1 × ((length y.0 ≡ 0) × AllByRecursion P y.0)) (ok_is ([], bytes) (xs, rest) e)
    (record { parts = refl; rest_fits = fits }, (refl, tt))
listed_takes {A} item P law (suc n) bytes xs rest fits e =
    let a = bind_ok (item.read bytes) (λ x. read_listed item.read n x.1 >>= λ ys. Ok (x.0 ∷ ys.0, ys.1)) (xs, rest) e in
    let b = bind_ok (read_listed item.read n a.0.1) (λ ys. Ok (a.0.0 ∷ ys.0, ys.1)) (xs, rest) a.2 in
    let t = law.takes bytes a.0.0 a.0.1 fits a.1 in
    let u = listed_takes item P law n a.0.1 b.0.0 b.0.1 t.0.rest_fits b.1 in
    let both = Takes-then bytes (item.spelled a.0.0) a.0.1 (flat_map item.spelled b.0.0) b.0.1 t.0 u.0 in
    subst (λ (y : List A × List ℕ). Takes bytes (flat_map item.spelled y.0) y.1 × ((length y.0 ≡ suc n) × AllByRecursion P y.0)) (ok_is (a.0.0 ∷ b.0.0, b.0.1) (xs, rest) b.2)
    (both, (ap suc u.1.0, (t.1, u.1.1)))

listed_again : {A : Type 0} (item : Field A) (P : A → Type 0) → IsField item P → (xs : List A) (rest : List ℕ) → AllByRecursion P xs
    → read_listed item.read (length xs) (flat_map item.spelled xs ++ rest) ≡ Ok (xs, rest)
unfolding read_listed
listed_again item P law [] rest h = refl
listed_again {A} item P law (x ∷ xs) rest h =
    ap (read_listed item.read (suc (length xs))) (append_assoc (item.spelled x) (flat_map item.spelled xs) rest)
    ∙ ap (λ (r : Reading A). r >>= λ y. read_listed item.read (length xs) y.1 >>= λ ys. Ok (y.0 ∷ ys.0, ys.1)) (law.again x (flat_map item.spelled xs ++ rest) h.0)
    ∙ ap (λ (r : Reading (List A)). r >>= λ ys. Ok (x ∷ ys.0, ys.1)) (listed_again item P law xs rest h.1)

pub listed_law : {A : Type 0} {item : Field A} {P : A → Type 0} → IsField item P → (n : ℕ) → IsField (listed item n) (λ xs. (length xs ≡ n) × AllByRecursion P xs)
listed_law {A} {item} {P} law n = record {
  takes = listed_takes item P law n;
  again = λ xs rest h. subst (λ (k : ℕ). read_listed item.read k (flat_map item.spelled xs ++ rest) ≡ Ok (xs, rest)) h.0 (listed_again item P law xs rest h.1);
}

-- The first number is at least that, and each is above the one before it.
abbrev pub AscendsFrom : ℕ → List ℕ → Type 0
AscendsFrom least [] = Unit {0}
AscendsFrom least (k ∷ ks) = (least ≤ k) × AscendsFrom (suc k) ks

ascending_takes : {A : Type 0} (key : A → ℕ) (entry : ℕ → Field A) (P : A → Type 0) → ((l : ℕ) → IsField (entry l) (λ x. P x × (l ≤ key x))) → ((l : ℕ) (x : A) → (entry l).spelled x ≡ (entry 0).spelled x)
    → (n least : ℕ) (bytes : List ℕ) (xs : List A) (rest : List ℕ) → IsBytes bytes
    → read_ascending key (λ l. (entry l).read) least n bytes ≡ Ok (xs, rest) → Takes bytes (flat_map (entry 0).spelled xs) rest × ((length xs ≡ n) × AscendsFrom least (map key xs) × AllByRecursion P xs)
unfolding read_ascending
ascending_takes {A} key entry P law same zero least bytes xs rest fits e =
    subst (λ (y : List A × List ℕ). Takes bytes (flat_map (entry 0).spelled y.0) y.1 × ((length y.0 ≡ 0) × AscendsFrom least (map key y.0) × AllByRecursion P y.0)) (ok_is ([], bytes) (xs, rest) e)
    (record { parts = refl; rest_fits = fits }, (refl, tt, tt))
ascending_takes {A} key entry P law same (suc n) least bytes xs rest fits e =
    let a = bind_ok ((entry least).read bytes) (λ x. read_ascending key (λ l. (entry l).read) (suc (key x.0)) n x.1 >>= λ ys. Ok (x.0 ∷ ys.0, ys.1)) (xs, rest) e in
    let b = bind_ok (read_ascending key (λ l. (entry l).read) (suc (key a.0.0)) n a.0.1) (λ ys. Ok (a.0.0 ∷ ys.0, ys.1)) (xs, rest) a.2 in
    let t = (law least).takes bytes a.0.0 a.0.1 fits a.1 in
    let t0 : Takes bytes ((entry 0).spelled a.0.0) a.0.1 = subst (λ (w : List ℕ). Takes bytes w a.0.1) (same least a.0.0) t.0 in
    let u = ascending_takes key entry P law same n (suc (key a.0.0)) a.0.1 b.0.0 b.0.1 t.0.rest_fits b.1 in
    let both = Takes-then bytes ((entry 0).spelled a.0.0) a.0.1 (flat_map (entry 0).spelled b.0.0) b.0.1 t0 u.0 in
    subst (λ (y : List A × List ℕ). Takes bytes (flat_map (entry 0).spelled y.0) y.1 × ((length y.0 ≡ suc n) × AscendsFrom least (map key y.0) × AllByRecursion P y.0)) (ok_is (a.0.0 ∷ b.0.0, b.0.1) (xs, rest) b.2)
    (both, (ap suc u.1.0, (t.1.1, u.1.1), (t.1.0, u.1.2)))

ascending_again : {A : Type 0} (key : A → ℕ) (entry : ℕ → Field A) (P : A → Type 0) → ((l : ℕ) → IsField (entry l) (λ x. P x × (l ≤ key x))) → ((l : ℕ) (x : A) → (entry l).spelled x ≡ (entry 0).spelled x)
    → (xs : List A) (least : ℕ) (rest : List ℕ) → AscendsFrom least (map key xs) → AllByRecursion P xs
    → read_ascending key (λ l. (entry l).read) least (length xs) (flat_map (entry 0).spelled xs ++ rest) ≡ Ok (xs, rest)
unfolding read_ascending
ascending_again key entry P law same [] least rest up h = refl
ascending_again {A} key entry P law same (x ∷ xs) least rest up h =
    ap (read_ascending key (λ l. (entry l).read) least (suc (length xs))) (append_assoc ((entry 0).spelled x) (flat_map (entry 0).spelled xs) rest)
    ∙ ap (λ (w : List ℕ). read_ascending key (λ l. (entry l).read) least (suc (length xs)) (w ++ (flat_map (entry 0).spelled xs ++ rest))) (sym (same least x))
    ∙ ap (λ (r : Reading A). r >>= λ y. read_ascending key (λ l. (entry l).read) (suc (key y.0)) (length xs) y.1 >>= λ ys. Ok (y.0 ∷ ys.0, ys.1)) ((law least).again x (flat_map (entry 0).spelled xs ++ rest) (h.0, up.0))
    ∙ ap (λ (r : Reading (List A)). r >>= λ ys. Ok (x ∷ ys.0, ys.1)) (ascending_again key entry P law same xs (suc (key x)) rest up.1 h.1)

pub ascending_law : {A : Type 0} (key : A → ℕ) (entry : ℕ → Field A) (P : A → Type 0) → ((l : ℕ) → IsField (entry l) (λ x. P x × (l ≤ key x))) → ((l : ℕ) (x : A) → (entry l).spelled x ≡ (entry 0).spelled x)
    → (n : ℕ) → IsField (ascending key entry n) (λ xs. (length xs ≡ n) × AscendsFrom 0 (map key xs) × AllByRecursion P xs)
ascending_law key entry P law same n = record {
  takes = ascending_takes key entry P law same n 0;
  again = λ xs rest h. subst (λ (k : ℕ). read_ascending key (λ l. (entry l).read) 0 k (flat_map (entry 0).spelled xs ++ rest) ≡ Ok (xs, rest)) h.0 (ascending_again key entry P law same xs 0 rest h.1 h.2);
}
