-- The word of a reference that a word stands for, and classes above a class.
use Rattle.std.proofs.Common.{◌≡◌, sym, ap, ◌∙◌, ℕ, zero, suc, ◌/◌, ◌%◌, ◌-◌, ◌<◌, arith, ℤ, pos, negsuc, Some}
use Rattle.std.proofs.lemmas.Nat.{div-add-mod'}
use Rattle.std.specs.Option.{option_and_then}
use Rattle.jn_code.specs.declared.image.Image.{Image}
use Rattle.jn_code.specs.Machine.{Ref, ref_in, ref_word, up_of, ups_of}

pub same_word : (z : ℤ) (r : Ref) → ref_in z ≡ Some r → ref_word r.view r.cell ≡ z
same_word (pos zero) r e = absurd cc
same_word (pos (suc n)) r e =
    let made : Ref = record { view = n / 4294967296; cell = n % 4294967296 } in
    let q : made ≡ r = cc in
    ap (λ (r : Ref). ref_word r.view r.cell) (sym q) ∙ ap (λ m. pos (suc m)) (div-add-mod' n 4294967296)
same_word (negsuc n) r e = absurd cc

-- one class up, and the rest of the way
pub ups_step : (i : Image) (n k u : ℕ) → 0 < n → up_of i k ≡ Some u → ups_of i (n - 1) u ≡ ups_of i n k
ups_step i n k u h e =
    let z : suc (n - 1) ≡ n = omega arith in
    ap (λ o. option_and_then (ups_of i (n - 1)) o) (sym e) ∙ ap (λ m. ups_of i m k) z
