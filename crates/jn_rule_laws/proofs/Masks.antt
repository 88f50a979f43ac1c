-- The set of some masks is one at most.
use Rattle.std.proofs.Common.{◌≡◌, ◌<◌, ◌^◌, ◌*◌, ◌+◌, ◌/◌, ◌%◌, ℕ, zero, suc, List, length, get_or, refl, sym, ap, ◌∙◌, arith, ◌↔◌}
use Rattle.std.specs.Int.{bit_at}
use Rattle.std.proofs.lemmas.Nat.Bits.{bit_at-suc, bit_at_lowest}
use Rattle.std.proofs.lemmas.Grind.{same_number_lists}
use Rattle.std.proofs.Math.Nat.{pow-succ'}
use Rattle.jn_base.specs.declared.types.Masks.{Masks}
use Rattle.jn_base.specs.Atoms.{MasksOf}

same_parity : (a b : ℕ) → a < 2 → b < 2 → (a ≡ 1 → b ≡ 1) → (b ≡ 1 → a ≡ 1) → a ≡ b
same_parity zero b i j f g = by_bit b j g where
  by_bit : (b : ℕ) → b < 2 → (b ≡ 1 → zero ≡ suc zero) → zero ≡ b
  by_bit zero j g = refl
  by_bit (suc n) j g = let e : n ≡ 0 = omega arith in absurd (let k = g (ap suc e) in omega (arith, k))
same_parity (suc a) b i j f g = let e : a ≡ 0 = omega arith in let k : b ≡ 1 = f (ap suc e) in omega (arith, e, k)

-- numbers of k bits with the same bits set are one
same_bits : (k m n : ℕ) → m < 2 ^ k → n < 2 ^ k → ((i : ℕ) → i < k → bit_at m i ≡ 1 ↔ bit_at n i ≡ 1) → m ≡ n
same_bits zero m n h j e = omega (arith, h, j)
same_bits (suc k) m n h j e =
    let m0 : bit_at m 0 ≡ m % 2 = bit_at_lowest m in
    let n0 : bit_at n 0 ≡ n % 2 = bit_at_lowest n in
    let there : m % 2 ≡ 1 → n % 2 ≡ 1 = λ x. sym n0 ∙ (e 0 (omega arith)).0 (m0 ∙ x) in
    let back : n % 2 ≡ 1 → m % 2 ≡ 1 = λ x. sym m0 ∙ (e 0 (omega arith)).1 (n0 ∙ x) in
    let lowest : m % 2 ≡ n % 2 = same_parity (m % 2) (n % 2) (omega arith) (omega arith) there back in
    let double : 2 ^ suc k ≡ 2 * 2 ^ k = pow-succ' 2 k in
    let rest : m / 2 ≡ n / 2 = same_bits k (m / 2) (n / 2) (omega arith) (omega arith)
    (λ i l. (λ x. sym (bit_at-suc n i) ∙ (e (suc i) (omega arith)).0 (bit_at-suc m i ∙ x), λ x. sym (bit_at-suc m i) ∙ (e (suc i) (omega arith)).1 (bit_at-suc n i ∙ x))) in
    omega arith

pub masks_of_once : (T : ℕ → Type 0) (a b : Masks) → MasksOf T a → MasksOf T b → a ≡ b
masks_of_once T a b h k =
    ap (λ (xs : List ℕ). let m : Masks = record { 0 = xs } in m) (same_number_lists a.0 b.0 (h.words ∙ sym k.words) each_word) where
      number : (w i : ℕ) → w < 4 → i < 64 → (w * 64 + i) / 64 ≡ w
      number w i l j = omega arith

      place : (w i : ℕ) → w < 4 → i < 64 → (w * 64 + i) % 64 ≡ i
      place w i l j = omega arith

      bits : (m : Masks) → MasksOf T m → (w i : ℕ) → w < 4 → i < 64 → bit_at (get_or m.0 w 0) i ≡ 1 ↔ T (w * 64 + i)
      bits m are w i l j = let e : w * 64 + i < 256 = omega arith in
          rw (number w i l j, place w i l j) at (are.each (w * 64 + i) e)

      wide : (m : Masks) → MasksOf T m → (w : ℕ) → w < 4 → get_or m.0 w 0 < 2 ^ 64
      wide m are w l = are.wide w 0 (omega (arith, are.words, l))

      each_word : (w : ℕ) → w < length a.0 → get_or a.0 w 0 ≡ get_or b.0 w 0
      each_word w l = let l4 : w < 4 = omega (arith, h.words, l) in
          same_bits 64 (get_or a.0 w 0) (get_or b.0 w 0) (wide a h w l4) (wide b k w l4)
          (λ i j. (λ x. (bits b k w i l4 j).1 ((bits a h w i l4 j).0 x), λ x. (bits a h w i l4 j).1 ((bits b k w i l4 j).0 x)))
