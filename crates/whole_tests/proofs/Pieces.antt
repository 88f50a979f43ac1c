-- A prefix that was taken, and a piece behind it.
use Rattle.std.proofs.Common.{◌≡◌, ℕ, ◌+◌, ◌≤◌, min, List, ◌++◌, length, take, drop, None, Some, ap, sym, ◌∙◌, append_assoc, refl, arith}
use Rattle.std.specs.declared.option.Option.{Option}
use Rattle.std.specs.Io.KnownBytes.{append_known}
use Rattle.std.proofs.lemmas.List.{take_min, take-take, length-take}
use Rattle.std.proofs.Math.Seq.{take-add}

append-append : (told : Option (List ℕ)) (xs ys : List ℕ) → append_known (append_known told xs) ys ≡ append_known told (xs ++ ys)
append-append None xs ys = refl
append-append (Some zs) xs ys = ap Some (append_assoc zs xs ys)

-- n bytes behind the first `at` make a longer prefix
pub taken_further : (told now new : Option (List ℕ)) (bytes : List ℕ) (at n : ℕ) → now ≡ append_known told (take at bytes) → new ≡ append_known now (take n (drop at bytes)) →
    new ≡ append_known told (take (at + n) bytes)
taken_further told now new bytes at n before behind =
    behind ∙ ap (λ t. append_known t (take n (drop at bytes))) before
    ∙ append-append told (take at bytes) (take n (drop at bytes))
    ∙ ap (append_known told) (sym (take-add at n bytes))

-- the first n of the first m are the first k, for some k
pub take_of_take : (n m : ℕ) (xs : List ℕ) → take n (take m xs) ≡ take (min n (length (take m xs))) xs
take_of_take n m xs =
    let short : min n (length (take m xs)) ≤ m = omega (arith, length-take m xs) in
    sym (take_min n (take m xs)) ∙ take-take (min n (length (take m xs))) m xs short

-- a prefix of the piece of m bytes behind the first `at`
pub taken_part : (told now new : Option (List ℕ)) (bytes : List ℕ) (at m : ℕ) → now ≡ append_known told (take at bytes) → (n : ℕ) × (new ≡ append_known now (take n (take m (drop at bytes)))) →
    (n : ℕ) × (new ≡ append_known told (take n bytes))
taken_part told now new bytes at m before (n, part) = (
  at + min n (length (take m (drop at bytes))),
  taken_further told now new bytes at (min n (length (take m (drop at bytes)))) before (part ∙ ap (append_known now) (take_of_take n m (drop at bytes))),
)
