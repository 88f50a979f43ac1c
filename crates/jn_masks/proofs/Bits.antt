-- Bits of the words of a set.
use Rattle.std.proofs.Common.{◌≡◌, ◌<◌, ◌+◌, ◌-◌, ◌*◌, ◌/◌, ◌%◌, ◌^◌, ℕ, zero, suc, List, [], ◌∷◌, length, get_or, ◌↔◌, ◌⊎◌, inl, inr, refl, sym, ap, ◌∙◌, subst, arith, bit_or, bit_and, min, max}
use Rattle.std.specs.Int.{bit_at, bit_not}
use Rattle.std.proofs.Math.ListN.{set}
use Rattle.std.proofs.lemmas.Bool.{cases_eq}
use Rattle.std.proofs.lemmas.List.{get_or-set_same, get_or-set_other, get_or_past}
use Rattle.std.proofs.lemmas.Nat.{and_le_l}
use Rattle.std.proofs.lemmas.Nat.Bits.{bit_at-lt, bit_at-zero, bit_at_or, bit_at_and, bit_at_not, bit_at-trailing_zeros, bit_at_set_same, bit_at_set_other, bit_at_clear_same, bit_at_clear_other}
use mir.Syntax.{w64}

-- bit i of the set with these words
abbrev pub bit_of : List ℕ → ℕ → ℕ
bit_of xs i = bit_at (get_or xs (i / 64) 0) (i % 64)

-- ---- a set with one word changed

set_same : (xs : List ℕ) (i w : ℕ) → i / 64 < length xs → bit_of (set xs (i / 64) w) i ≡ bit_at w (i % 64)
set_same xs i w l = ap (λ (x : ℕ). bit_at x (i % 64)) (get_or-set_same xs (i / 64) w 0 l)

set_other : (xs : List ℕ) (i j w : ℕ) → i / 64 < length xs → (j ≡ i → ⊥)
    → ((k : ℕ) → k < 64 → (k ≡ i % 64 → ⊥) → bit_at w k ≡ bit_at (get_or xs (i / 64) 0) k)
    → bit_of (set xs (i / 64) w) j ≡ bit_of xs j
set_other xs i j w l n kept = by_word (cases_eq (j / 64) (i / 64)) where
  by_word : (j / 64 ≡ i / 64) ⊎ (j / 64 ≡ i / 64 → ⊥) → bit_of (set xs (i / 64) w) j ≡ bit_of xs j
  by_word (inl e) =
      ap (λ (x : ℕ). bit_at (get_or (set xs (i / 64) w) x 0) (j % 64)) e
      ∙ (ap (λ (x : ℕ). bit_at x (j % 64)) (get_or-set_same xs (i / 64) w 0 l)
      ∙ (kept (j % 64) (omega arith) (λ r. n (omega (arith, e, r)))
      ∙ ap (λ (x : ℕ). bit_at (get_or xs x 0) (j % 64)) (sym e)))
  by_word (inr d) = ap (λ (x : ℕ). bit_at x (j % 64)) (get_or-set_other xs (i / 64) (j / 64) w 0 d)

abbrev pub with_bit : List ℕ → ℕ → List ℕ
with_bit xs i = set xs (i / 64) (bit_or (get_or xs (i / 64) 0) (1 * 2 ^ (i % 64) % 2 ^ 64))

pub added : (xs : List ℕ) (i j : ℕ) → i / 64 < length xs → (bit_of (with_bit xs i) j ≡ 1) ↔ ((bit_of xs j ≡ 1) ⊎ (j ≡ i))
added xs i j l = by_place (cases_eq j i) where
  here : bit_of (with_bit xs i) i ≡ 1
  here = set_same xs i (bit_or (get_or xs (i / 64) 0) (1 * 2 ^ (i % 64) % 2 ^ 64)) l
      ∙ bit_at_set_same w64 (get_or xs (i / 64) 0) (i % 64) (omega arith)

  other : (j ≡ i → ⊥) → bit_of (with_bit xs i) j ≡ bit_of xs j
  other n = set_other xs i j (bit_or (get_or xs (i / 64) 0) (1 * 2 ^ (i % 64) % 2 ^ 64)) l n
      (λ k b d. bit_at_set_other w64 (get_or xs (i / 64) 0) (i % 64) (omega arith) k d)

  by_place : (j ≡ i) ⊎ (j ≡ i → ⊥) → (bit_of (with_bit xs i) j ≡ 1) ↔ ((bit_of xs j ≡ 1) ⊎ (j ≡ i))
  by_place (inl e) = (λ x. inr e, λ x. subst (λ (n : ℕ). bit_of (with_bit xs i) n ≡ 1) (sym e) here)
  by_place (inr n) = (λ x. inl (sym (other n) ∙ x), λ x. elim x [ inl y ↦ other n ∙ y | inr e ↦ absurd (n e) ])

abbrev pub without_bit : List ℕ → ℕ → List ℕ
without_bit xs i = set xs (i / 64) (bit_and (get_or xs (i / 64) 0) (bit_not w64 (1 * 2 ^ (i % 64) % 2 ^ 64)))

pub dropped : (xs : List ℕ) (i j : ℕ) → i / 64 < length xs → (bit_of (without_bit xs i) j ≡ 1) ↔ ((bit_of xs j ≡ 1) × (j ≡ i → ⊥))
dropped xs i j l = by_place (cases_eq j i) where
  here : bit_of (without_bit xs i) i ≡ 0
  here = set_same xs i (bit_and (get_or xs (i / 64) 0) (bit_not w64 (1 * 2 ^ (i % 64) % 2 ^ 64))) l
      ∙ bit_at_clear_same w64 (get_or xs (i / 64) 0) (i % 64) (omega arith)

  other : (j ≡ i → ⊥) → bit_of (without_bit xs i) j ≡ bit_of xs j
  other n = set_other xs i j (bit_and (get_or xs (i / 64) 0) (bit_not w64 (1 * 2 ^ (i % 64) % 2 ^ 64))) l n
      (λ k b d. bit_at_clear_other w64 (get_or xs (i / 64) 0) (i % 64) (omega arith) k b d)

  by_place : (j ≡ i) ⊎ (j ≡ i → ⊥) → (bit_of (without_bit xs i) j ≡ 1) ↔ ((bit_of xs j ≡ 1) × (j ≡ i → ⊥))
  by_place (inl e) =
      let z : bit_of (without_bit xs i) j ≡ 0 = subst (λ (n : ℕ). bit_of (without_bit xs i) n ≡ 0) (sym e) here in
      (λ x. absurd (omega (arith, z, x)), λ x. absurd (x.1 e))
  by_place (inr n) = (λ x. (sym (other n) ∙ x, n), λ x. other n ∙ x.0)

-- ---- two sets

abbrev pub joined_words : List ℕ → List ℕ → List ℕ
joined_words xs ys =
    bit_or (get_or xs 0 0) (get_or ys 0 0) ∷ bit_or (get_or xs 1 0) (get_or ys 1 0) ∷ bit_or (get_or xs 2 0) (get_or ys 2 0)
    ∷ bit_or (get_or xs 3 0) (get_or ys 3 0) ∷ []

joined_word : (xs ys : List ℕ) → length xs ≡ 4 → length ys ≡ 4 → (w : ℕ)
    → get_or (joined_words xs ys) w 0 ≡ bit_or (get_or xs w 0) (get_or ys w 0)
joined_word xs ys l m zero = refl
joined_word xs ys l m (suc zero) = refl
joined_word xs ys l m (suc (suc zero)) = refl
joined_word xs ys l m (suc (suc (suc zero))) = refl
joined_word xs ys l m (suc (suc (suc (suc w)))) =
    let x : get_or xs (suc (suc (suc (suc w)))) 0 ≡ 0 = get_or_past xs _ 0 (omega arith) in
    let y : get_or ys (suc (suc (suc (suc w)))) 0 ≡ 0 = get_or_past ys _ 0 (omega arith) in
    sym (ap (λ (n : ℕ). bit_or n (get_or ys (suc (suc (suc (suc w)))) 0)) x ∙ ap (bit_or 0) y)

pub joined : (xs ys : List ℕ) (j : ℕ) → length xs ≡ 4 → length ys ≡ 4
    → (bit_of (joined_words xs ys) j ≡ 1) ↔ ((bit_of xs j ≡ 1) ⊎ (bit_of ys j ≡ 1))
joined xs ys j l m = (λ x. by_first x (cases_eq (bit_of xs j) 1), λ x. from x) where
  whole : bit_of (joined_words xs ys) j ≡ max (bit_of xs j) (bit_of ys j)
  whole = ap (λ (x : ℕ). bit_at x (j % 64)) (joined_word xs ys l m (j / 64))
      ∙ bit_at_or (get_or xs (j / 64) 0) (get_or ys (j / 64) 0) (j % 64)

  small : bit_of xs j < 2
  small = bit_at-lt (get_or xs (j / 64) 0) (j % 64)

  small_too : bit_of ys j < 2
  small_too = bit_at-lt (get_or ys (j / 64) 0) (j % 64)

  by_first : bit_of (joined_words xs ys) j ≡ 1 → (bit_of xs j ≡ 1) ⊎ (bit_of xs j ≡ 1 → ⊥) → (bit_of xs j ≡ 1) ⊎ (bit_of ys j ≡ 1)
  by_first x (inl e) = inl e
  by_first x (inr n) = inr (omega (arith, x, n, whole, small, small_too))

  from : (bit_of xs j ≡ 1) ⊎ (bit_of ys j ≡ 1) → bit_of (joined_words xs ys) j ≡ 1
  from (inl e) = omega (arith, e, whole, small, small_too)
  from (inr e) = omega (arith, e, whole, small, small_too)

-- each bit of a is one of b, since no bit is left of a without those of b
pub none_missing : (a b : ℕ) → a < 2 ^ 64 → b < 2 ^ 64
    → (bit_and a (bit_not w64 b) ≡ 0) ↔ ((k : ℕ) → k < 64 → bit_at a k ≡ 1 → bit_at b k ≡ 1)
none_missing a b la lb = (there, λ h. none h (cases_eq (bit_and a (bit_not w64 b)) 0)) where
  missing : (k : ℕ) → k < 64 → bit_at (bit_and a (bit_not w64 b)) k ≡ min (bit_at a k) (1 - bit_at b k)
  missing k l = bit_at_and a (bit_not w64 b) k ∙ ap (min (bit_at a k)) (bit_at_not w64 b k lb l)

  there : bit_and a (bit_not w64 b) ≡ 0 → (k : ℕ) → k < 64 → bit_at a k ≡ 1 → bit_at b k ≡ 1
  there e k l h =
      let z : bit_at (bit_and a (bit_not w64 b)) k ≡ 0 = ap (λ (x : ℕ). bit_at x k) e ∙ bit_at-zero k in
      omega (arith, z, h, missing k l, bit_at-lt b k)

  none : ((k : ℕ) → k < 64 → bit_at a k ≡ 1 → bit_at b k ≡ 1)
      → (bit_and a (bit_not w64 b) ≡ 0) ⊎ (bit_and a (bit_not w64 b) ≡ 0 → ⊥) → bit_and a (bit_not w64 b) ≡ 0
  none h (inl e) = e
  none h (inr n) =
      let below : bit_and a (bit_not w64 b) < 2 ^ 64 = omega (arith, and_le_l a (bit_not w64 b), la) in
      let t = bit_at-trailing_zeros w64 (bit_and a (bit_not w64 b)) (omega (arith, n)) below in
      absurd (missed _ t.0 t.1)
    where
      missed : (k : ℕ) → k < 64 → bit_at (bit_and a (bit_not w64 b)) k ≡ 1 → ⊥
      missed k l e =
          let m = missing k l in
          let first : bit_at a k ≡ 1 = omega (arith, e, m, bit_at-lt a k) in
          omega (arith, e, m, h k l first)

-- a word of a set that lies within another lies within that one's word
pub in_word : (xs ys : List ℕ) (w k : ℕ) → k < 64 → ((j : ℕ) → bit_of xs j ≡ 1 → bit_of ys j ≡ 1)
    → bit_at (get_or xs w 0) k ≡ 1 → bit_at (get_or ys w 0) k ≡ 1
in_word xs ys w k l h e = sym (there ys) ∙ h (w * 64 + k) (there xs ∙ e) where
  there : (zs : List ℕ) → bit_of zs (w * 64 + k) ≡ bit_at (get_or zs w 0) k
  there zs =
      let q : (w * 64 + k) / 64 ≡ w = omega arith in
      let r : (w * 64 + k) % 64 ≡ k = omega arith in
      ap (λ (n : ℕ). bit_at (get_or zs n 0) ((w * 64 + k) % 64)) q ∙ ap (bit_at (get_or zs w 0)) r
