-- Masks are sets of mask numbers, each below 256.
use Rattle.std.proofs.Common.{◌≡◌, ◌≤◌, ◌<◌, ◌/◌, ◌%◌, ℕ, length, Bool, true, false, refl, sym, ap, ◌∙◌, arith}
use Rattle.std.specs.Prelude.{nat_lt}
use Rattle.std.specs.Int.{bit_at}
use Rattle.std.proofs.Math.ListN.{get_or-eq_default}
use Rattle.std.proofs.lemmas.Nat.Bits.{bit_at-zero}
use Rattle.std.proofs.lemmas.Bool.{ltb-true, ltb-false}
use Rattle.jn_base.specs.declared.types.Masks.{Masks}
use Rattle.jn_base.specs.Atoms.{HasMask, MasksOf}

pub formed_of : (T : ℕ → Type 0) (m : Masks) → MasksOf T m → MasksOf (HasMask m) m
formed_of T m f = record { words = f.words; wide = f.wide; each = λ i l. ((λ h. h), (λ h. h)) }

-- a mask's number is below 256
pub mask_small : (m : Masks) → MasksOf (HasMask m) m → (i : ℕ) → HasMask m i → i < 256
mask_small m f i h = at (nat_lt i 256) refl where
  at : (c : Bool) → nat_lt i 256 ≡ c → i < 256
  at true e = ltb-true i 256 e
  at false e =
      let k : 256 ≤ i = ltb-false i 256 e in
      let l : length m.0 ≤ i / 64 = omega (arith, k, f.words) in
      absurd (no (sym (bit_at-zero (i % 64))
      ∙ ap (λ (w : ℕ). bit_at w (i % 64)) (sym (get_or-eq_default m.0 0 l)) ∙ h)) where
        no : (let k : ℕ = 0 in k ≡ 1) → ⊥
        no e = cc
