-- The slots of a group, one after the other.
use Rattle.std.proofs.Common.{◌≡◌, ◌<◌, ◌≤◌, ◌+◌, ◌↔◌, ◌⊎◌, inl, inr, ℕ, zero, suc, List, [], ◌∷◌, ◌++◌, length, Contains, Some, None, slice_get, get_or, refl, sym, ap, ◌∙◌, subst, arith}
use Rattle.std.specs.declared.vec.Vec.{Vec}
use Rattle.std.specs.declared.alloc.Global.{Global}
use Rattle.std.specs.List.Sorted.{IsStrictlyIncreasing}
use Rattle.std.proofs.lemmas.Bool.{cases_lt}
use Rattle.std.proofs.lemmas.List.{append-nil, append_assoc as joined_on}
use Rattle.std.proofs.lemmas.List.Elements.{Contains-append_left, Contains-append_right, Contains-append_cases}
use Rattle.std.proofs.lemmas.List.Kept.{AllPairs-from_increasing}
use Rattle.std.proofs.lemmas.Option.{slice_get_read, slice_get_within, slice_get-get_or}
use Rattle.jn_reach.proofs.Searches.{same_some}
use Rattle.jn_base.proofs.NameTests.{in_cons, in_none, first}
use Rattle.jn_share.specs.declared.field_first.FieldFirst.{FieldFirst}
use Rattle.jn_share.specs.declared.keys.FieldKey.{FieldKey}
use Rattle.jn_share.specs.Keys.{key, IsOnce, OnceEach, IsOwnKey, AddsOwn, IsKeyOf, AreKeys}

-- ---- once

place : {A : Type 0} (xs : List A) (x : A) (c : Contains xs x) → slice_get xs c.0 ≡ Some x
place xs x c = slice_get_read xs (length xs) c.0 x refl c.1 (sym c.2)

pub at_in : {A : Type 0} (xs : List A) (i : ℕ) (x : A) → slice_get xs i ≡ Some x → Contains xs x
at_in [] i x e = absurd (cc e)
at_in (y ∷ ys) zero x e = (0, omega arith, let h : y ≡ x = cc e in h)
at_in (y ∷ ys) (suc i) x e = let r = at_in ys i x e in (suc r.0, omega (arith, r.1), r.2)

left_or_right : {A : Type 0} (xs ys : List A) (i : ℕ) (x : A) → slice_get (xs ++ ys) i ≡ Some x
    → ((i < length xs) × (slice_get xs i ≡ Some x)) ⊎ ((j : ℕ) × (i ≡ length xs + j) × (slice_get ys j ≡ Some x))
left_or_right [] ys i x e = inr (i, omega arith, e)
left_or_right (z ∷ zs) ys zero x e = inl (omega arith, e)
left_or_right (z ∷ zs) ys (suc i) x e = by_case (left_or_right zs ys i x e) where
  by_case : ((i < length zs) × (slice_get zs i ≡ Some x)) ⊎ ((j : ℕ) × (i ≡ length zs + j) × (slice_get ys j ≡ Some x))
      → ((suc i < suc (length zs)) × (slice_get zs i ≡ Some x)) ⊎ ((j : ℕ) × (suc i ≡ suc (length zs) + j) × (slice_get ys j ≡ Some x))
  by_case (inl h) = inl (omega (arith, h.0), h.1)
  by_case (inr h) = inr (h.0, omega (arith, h.1), h.2)

pub once_joined : {A : Type 0} (xs ys : List A) → IsOnce xs → IsOnce ys → ((x : A) → Contains xs x → Contains ys x → ⊥) → IsOnce (xs ++ ys)
once_joined {A} xs ys one two apart i j x a b = by_case (left_or_right xs ys i x a) (left_or_right xs ys j x b) where
  by_case : ((i < length xs) × (slice_get xs i ≡ Some x)) ⊎ ((k : ℕ) × (i ≡ length xs + k) × (slice_get ys k ≡ Some x))
      → ((j < length xs) × (slice_get xs j ≡ Some x)) ⊎ ((k : ℕ) × (j ≡ length xs + k) × (slice_get ys k ≡ Some x)) → i ≡ j
  by_case (inl h) (inl k) = one i j x h.1 k.1
  by_case (inl h) (inr k) = absurd (apart x (at_in xs i x h.1) (at_in ys k.0 x k.2))
  by_case (inr h) (inl k) = absurd (apart x (at_in xs j x k.1) (at_in ys h.0 x h.2))
  by_case (inr h) (inr k) = let q = two h.0 k.0 x h.2 k.2 in omega (arith, h.1, k.1, q)

pub once_none : {A : Type 0} → IsOnce {A = A} []
once_none i j x a b = absurd (cc a)

once_single : {A : Type 0} (y : A) → IsOnce (y ∷ [])
once_single y zero zero x a b = refl
once_single y zero (suc j) x a b = absurd (cc b)
once_single y (suc i) j x a b = absurd (cc a)

only_one : {A : Type 0} (x y : A) → Contains (x ∷ []) y → x ≡ y
only_one x y c = by_case (in_cons x [] y c) where
  by_case : (x ≡ y) ⊎ Contains [] y → x ≡ y
  by_case (inl e) = e
  by_case (inr n) = absurd (in_none y n)

-- ---- the keys of a row

pub record OwnAt (row : List FieldFirst) (m i : ℕ) (k : FieldKey) : Type 0 where
  pub j : ℕ
  pub x : FieldFirst
  pub below : j < i
  pub at : slice_get row j ≡ Some x
  pub first : x.first ≡ m
  pub is : k ≡ key m x.field

pub record OwnTo (row : List FieldFirst) (m i : ℕ) (before after : List FieldKey) : Type 0 where
  pub added : List FieldKey
  pub is : after ≡ before ++ added
  pub exact : (k : FieldKey) → Contains added k ↔ OwnAt row m i k
  pub once : OnceEach row → IsOnce added

pub own_start : (row : List FieldFirst) (m : ℕ) (keys : List FieldKey) → OwnTo row m 0 keys keys
own_start row m keys = record {
  added = [];
  is = sym (append-nil keys);
  exact = λ k. (λ c. absurd (in_none k c), λ h. absurd (let l = h.below in omega arith));
  once = λ o. once_none;
}

pub own_skip : (row : List FieldFirst) (m i : ℕ) (x : FieldFirst) (before after : List FieldKey) → i < length row → x ≡ get_or row i x → (x.first ≡ m → ⊥)
    → OwnTo row m i before after → OwnTo row m (i + 1) before after
own_skip row m i x before after l e n w = record { added = w.added; is = w.is; exact = exact; once = w.once } where
  at_i : slice_get row i ≡ Some x
  at_i = slice_get_read row (length row) i x refl l e

  exact : (k : FieldKey) → Contains w.added k ↔ OwnAt row m (i + 1) k
  exact k = (to, from) where
    to : Contains w.added k → OwnAt row m (i + 1) k
    to c = let h = (w.exact k).0 c in let b = h.below in record { j = h.j; x = h.x; below = omega arith; at = h.at; first = h.first; is = h.is }

    from : OwnAt row m (i + 1) k → Contains w.added k
    from h = by_place (cases_lt h.j i) where
      by_place : (h.j < i) ⊎ (i ≤ h.j) → Contains w.added k
      by_place (inl b) = (w.exact k).1 (record { j = h.j; x = h.x; below = b; at = h.at; first = h.first; is = h.is })
      by_place (inr b) =
          let q = h.below in
          let same : h.j ≡ i = omega arith in
          let one : h.x ≡ x = same_some (slice_get row h.j) h.x x h.at (ap (slice_get row) same ∙ at_i) in
          absurd (n (sym (ap (λ (z : FieldFirst). z.first) one) ∙ h.first))

pub own_more : (row : List FieldFirst) (m i : ℕ) (x : FieldFirst) (before now after : List FieldKey) → i < length row → x ≡ get_or row i x → x.first ≡ m
    → after ≡ now ++ key m x.field ∷ [] → OwnTo row m i before now → OwnTo row m (i + 1) before after
own_more row m i x before now after l e f q w = record {
  added = w.added ++ key m x.field ∷ [];
  is = q ∙ (ap (λ (ks : List FieldKey). ks ++ key m x.field ∷ []) w.is ∙ joined_on before w.added (key m x.field ∷ []));
  exact = exact;
  once = λ o. once_joined w.added (key m x.field ∷ []) (w.once o) (once_single (key m x.field)) (apart o);
} where
  at_i : slice_get row i ≡ Some x
  at_i = slice_get_read row (length row) i x refl l e

  exact : (k : FieldKey) → Contains (w.added ++ key m x.field ∷ []) k ↔ OwnAt row m (i + 1) k
  exact k = (to, from) where
    to : Contains (w.added ++ key m x.field ∷ []) k → OwnAt row m (i + 1) k
    to c = by_part (Contains-append_cases w.added (key m x.field ∷ []) k c) where
      by_part : Contains w.added k ⊎ Contains (key m x.field ∷ []) k → OwnAt row m (i + 1) k
      by_part (inl s) = let h = (w.exact k).0 s in let b = h.below in record { j = h.j; x = h.x; below = omega arith; at = h.at; first = h.first; is = h.is }
      by_part (inr s) = record { j = i; x = x; below = omega arith; at = at_i; first = f; is = sym (only_one (key m x.field) k s) }

    from : OwnAt row m (i + 1) k → Contains (w.added ++ key m x.field ∷ []) k
    from h = by_place (cases_lt h.j i) where
      by_place : (h.j < i) ⊎ (i ≤ h.j) → Contains (w.added ++ key m x.field ∷ []) k
      by_place (inl b) = Contains-append_left w.added (key m x.field ∷ []) k ((w.exact k).1 (record { j = h.j; x = h.x; below = b; at = h.at; first = h.first; is = h.is }))
      by_place (inr b) =
          let p = h.below in
          let same : h.j ≡ i = omega arith in
          let one : h.x ≡ x = same_some (slice_get row h.j) h.x x h.at (ap (slice_get row) same ∙ at_i) in
          let it : key m x.field ≡ k = ap (λ (z : FieldFirst). key m z.field) (sym one) ∙ sym h.is in
          Contains-append_right w.added (key m x.field ∷ []) k (subst (λ (z : FieldKey). Contains (key m x.field ∷ []) z) it (first (key m x.field) []))

  apart : OnceEach row → (k : FieldKey) → Contains w.added k → Contains (key m x.field ∷ []) k → ⊥
  apart o k c d =
      let h = (w.exact k).0 c in
      let b = h.below in
      let name : h.x.field ≡ x.field = ap (λ (z : FieldKey). z.field) (sym h.is ∙ sym (only_one (key m x.field) k d)) in
      let same = o h.j i h.x x h.at at_i name in
      absurd (omega arith)

pub own_all : (row : List FieldFirst) (m i : ℕ) (before after : List FieldKey) → length row ≤ i → OwnTo row m i before after → AddsOwn row m before after
own_all row m i before after past w = record {
  added = w.added;
  is = w.is;
  exact = λ k. (
    λ c. let h = (w.exact k).0 c in record { field = h.x; among = at_in row h.j h.x h.at; first = h.first; is = h.is },
    λ h.
        let l = h.among.1 in
        (w.exact k).1 (record { j = h.among.0; x = h.field; below = omega arith; at = place row h.field h.among; first = h.first; is = h.is }),
  );
  once = w.once;
}

-- ---- the keys of a group

-- m is one of the first n
abbrev pub AmongFirst : List ℕ → ℕ → ℕ → Type 0
AmongFirst among n m = (i : ℕ) × (i < n) × (slice_get among i ≡ Some m)

pub record KeysTo (rows : List (Vec FieldFirst Global)) (among : List ℕ) (n : ℕ) (keys : List FieldKey) : Type 0 where
  pub exact : (k : FieldKey) → Contains keys k ↔ IsKeyOf rows (AmongFirst among n) k
  pub once : ((m : ℕ) (row : Vec FieldFirst Global) → Contains among m → slice_get rows m ≡ Some row → OnceEach row.items) → IsOnce keys

pub keys_start : (rows : List (Vec FieldFirst Global)) (among : List ℕ) (keys : List FieldKey) → keys ≡ [] → KeysTo rows among 0 keys
keys_start rows among keys e = subst (KeysTo rows among 0) (sym e) (record {
  exact = λ k. (λ c. absurd (in_none k c), λ h. absurd (let l = h.among.1 in omega arith));
  once = λ o. once_none;
})

any_zero : (xs : List ℕ) (i : ℕ) → i < length xs → slice_get xs i ≡ Some (get_or xs i 0)
any_zero xs i l = slice_get-get_or xs i 0 l

wider : (rows : List (Vec FieldFirst Global)) (among : List ℕ) (n : ℕ) (k : FieldKey) → IsKeyOf rows (AmongFirst among n) k → IsKeyOf rows (AmongFirst among (n + 1)) k
wider rows among n k h = let l = h.among.1 in record { among = (h.among.0, omega arith, h.among.2); row = h.row; at = h.at; own = h.own }

module _ (rows : List (Vec FieldFirst Global)) (among : List ℕ) (n m : ℕ) (l : n < length among) (e : m ≡ get_or among n 0) where
  at_n : slice_get among n ≡ Some m
  at_n = any_zero among n l ∙ ap Some (sym e)

  narrower : (k : FieldKey) → IsKeyOf rows (AmongFirst among (n + 1)) k → IsKeyOf rows (AmongFirst among n) k ⊎ (k.class ≡ m)
  narrower k h = by_place (cases_lt h.among.0 n) where
    by_place : (h.among.0 < n) ⊎ (n ≤ h.among.0) → IsKeyOf rows (AmongFirst among n) k ⊎ (k.class ≡ m)
    by_place (inl b) = inl (record { among = (h.among.0, b, h.among.2); row = h.row; at = h.at; own = h.own })
    by_place (inr b) =
        let q = h.among.1 in
        let same : h.among.0 ≡ n = omega arith in
        inr (same_some (slice_get among h.among.0) k.class m h.among.2 (ap (slice_get among) same ∙ at_n))

  pub keys_skip : (keys : List FieldKey) → None ≡ slice_get rows m → KeysTo rows among n keys → KeysTo rows among (n + 1) keys
  keys_skip keys none w = record { exact = λ k. (λ c. wider rows among n k ((w.exact k).0 c), from k); once = w.once } where
    nothing : {v : Vec FieldFirst Global} → None ≡ Some v → ⊥
    nothing q = cc

    from : (k : FieldKey) → IsKeyOf rows (AmongFirst among (n + 1)) k → Contains keys k
    from k h = by_case (narrower k h) where
      by_case : IsKeyOf rows (AmongFirst among n) k ⊎ (k.class ≡ m) → Contains keys k
      by_case (inl s) = (w.exact k).1 s
      by_case (inr s) = absurd (nothing (none ∙ (ap (slice_get rows) (sym s) ∙ h.at)))

  pub keys_more : IsStrictlyIncreasing among → (row : Vec FieldFirst Global) → slice_get rows m ≡ Some row → (items : List FieldFirst) → items ≡ row.items → (keys after : List FieldKey)
      → AddsOwn items m keys after → KeysTo rows among n keys → KeysTo rows among (n + 1) after
  keys_more up row at items ie keys after a w = subst (KeysTo rows among (n + 1)) (sym a.is) (record { exact = exact; once = once }) where
    own_class : (k : FieldKey) → Contains a.added k → k.class ≡ m
    own_class k c = ap (λ (z : FieldKey). z.class) ((a.exact k).0 c).is

    exact : (k : FieldKey) → Contains (keys ++ a.added) k ↔ IsKeyOf rows (AmongFirst among (n + 1)) k
    exact k = (to, from) where
      to : Contains (keys ++ a.added) k → IsKeyOf rows (AmongFirst among (n + 1)) k
      to c = by_part (Contains-append_cases keys a.added k c) where
        by_part : Contains keys k ⊎ Contains a.added k → IsKeyOf rows (AmongFirst among (n + 1)) k
        by_part (inl s) = wider rows among n k ((w.exact k).0 s)
        by_part (inr s) =
            let class = own_class k s in
            let own = subst (λ (xs : List FieldFirst). IsOwnKey xs m k) ie ((a.exact k).0 s) in
            record {
              among = (n, omega arith, at_n ∙ ap Some (sym class));
              row = row;
              at = ap (slice_get rows) class ∙ at;
              own = subst (λ (j : ℕ). IsOwnKey row.items j k) (sym class) own;
            }

      from : IsKeyOf rows (AmongFirst among (n + 1)) k → Contains (keys ++ a.added) k
      from h = by_case (narrower k h) where
        by_case : IsKeyOf rows (AmongFirst among n) k ⊎ (k.class ≡ m) → Contains (keys ++ a.added) k
        by_case (inl s) = Contains-append_left keys a.added k ((w.exact k).1 s)
        by_case (inr s) =
            let one : h.row ≡ row = same_some (slice_get rows m) h.row row (ap (slice_get rows) (sym s) ∙ h.at) at in
            let own = subst (λ (j : ℕ). IsOwnKey h.row.items j k) s h.own in
            let here = subst (λ (xs : List FieldFirst). IsOwnKey xs m k) (ap (λ (v : Vec FieldFirst Global). v.items) one ∙ sym ie) own in
            Contains-append_right keys a.added k ((a.exact k).1 here)

    once : ((j : ℕ) (r : Vec FieldFirst Global) → Contains among j → slice_get rows j ≡ Some r → OnceEach r.items) → IsOnce (keys ++ a.added)
    once o =
        once_joined keys a.added (w.once o) (a.once (subst OnceEach (sym ie) (o m row (at_in among n m at_n) at)))
        (λ k c d.
        let h = (w.exact k).0 c in
        let class = own_class k d in
        let b = h.among.1 in
        let less = AllPairs-from_increasing among up h.among.0 n 0 b l in
        let there : get_or among h.among.0 0 ≡ m =
        same_some (slice_get among h.among.0) (get_or among h.among.0 0) m (any_zero among h.among.0 (slice_get_within among h.among.0 k.class h.among.2)) (h.among.2 ∙ ap Some class) in
        absurd (omega (arith, less, there, e)))

pub keys_all : (rows : List (Vec FieldFirst Global)) (among : List ℕ) (n : ℕ) (keys : List FieldKey) → length among ≤ n → KeysTo rows among n keys → AreKeys rows among keys
keys_all rows among n keys past w = record {
  exact = λ k. (
    λ c. let h = (w.exact k).0 c in record { among = at_in among h.among.0 k.class h.among.2; row = h.row; at = h.at; own = h.own },
    λ h. let l = h.among.1 in (w.exact k).1 (record { among = (h.among.0, omega arith, place among k.class h.among); row = h.row; at = h.at; own = h.own }),
  );
  once = w.once;
}

-- ---- the place of a key

abbrev pub NotTo : List FieldKey → FieldKey → ℕ → Type 0
NotTo keys k n = (j : ℕ) (x : FieldKey) → j < n → slice_get keys j ≡ Some x → x ≡ k → ⊥

pub not_there : (keys : List FieldKey) (k : FieldKey) (n : ℕ) → length keys ≤ n → NotTo keys k n → Contains keys k → ⊥
not_there keys k n past w c = let l = c.1 in w c.0 k (omega arith) (place keys k c) refl
