-- Runs of characters, and the value of digits.
use Rattle.std.proofs.Common.{◌≡◌, ℕ, zero, suc, ◌+◌, ◌-◌, ◌*◌, ◌<◌, ◌≤◌, Bool, true, List, [], ◌∷◌, length, take, get_or, refl, ◌∙◌, ap, arith, ◌&&◌, eq-eqb}
use Rattle.std.specs.Prelude.{fold}
use Rattle.std.specs.List.{prefix_len, AllPass}
use Rattle.std.specs.Str.{bytes_eq}
use Rattle.std.proofs.lemmas.List.Sums.{prefix_len_passes}
use Rattle.std.proofs.lemmas.List.{get_or-take, length-take}
use Rattle.jn_base.specs.Tokens.{digits_value}

step : ℕ → ℕ → ℕ
step value c = 10 * value + (c - 48)

-- digits behind others make the value no smaller
fold_grows : (a : ℕ) (w : List ℕ) → a ≤ fold (λ value c. 10 * value + (c - 48)) a w
fold_grows a [] = omega arith
fold_grows a (c ∷ w) = let more : 10 * a + (c - 48) ≤ fold (λ value c. 10 * value + (c - 48)) (10 * a + (c - 48)) w = fold_grows (10 * a + (c - 48)) w in omega arith

grown : (a : ℕ) (w : List ℕ) (i : ℕ) → i < length w → 10 * fold (λ value c. 10 * value + (c - 48)) a (take i w) ≤ fold (λ value c. 10 * value + (c - 48)) a w
grown a [] i h = absurd (omega arith)
grown a (c ∷ w) zero h = let more : 10 * a + (c - 48) ≤ fold (λ value c. 10 * value + (c - 48)) (10 * a + (c - 48)) w = fold_grows (10 * a + (c - 48)) w in omega arith
grown a (c ∷ w) (suc i) h = grown (10 * a + (c - 48)) w i (omega arith)

pub value_grows : (w : List ℕ) (i : ℕ) → i < length w → 10 * digits_value (take i w) ≤ digits_value w
value_grows w i h = grown 0 w i h

pub same_text : (v w : List ℕ) → length v ≡ length w → ((k : ℕ) → k < length v → get_or v k 0 ≡ get_or w k 0) → bytes_eq v w ≡ true
same_text [] [] e h = refl
same_text [] (d ∷ w) e h = absurd (omega arith)
same_text (c ∷ v) [] e h = absurd (omega arith)
same_text (c ∷ v) (d ∷ w) e h =
    let first : c ≡ d = h 0 (omega arith) in
    let others : bytes_eq v w ≡ true = same_text v w (omega arith) (λ k l. h (suc k) (omega arith)) in
    ap (λ b. b && bytes_eq v w) (eq-eqb c d first) ∙ others

-- the characters of a run pass its test
pub run_passes : (test : ℕ → Bool) (cs : List ℕ) (n : ℕ) → n ≡ prefix_len test cs → AllPass test (take n cs)
run_passes test cs n e k d h =
    let within : k < n = omega (arith, length-take n cs) in
    let passes : test (get_or cs k d) ≡ true = prefix_len_passes test cs k d (omega arith) in
    ap test (get_or-take n cs k d within) ∙ passes
