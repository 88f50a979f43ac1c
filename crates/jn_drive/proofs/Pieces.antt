-- Pieces put one after the other are the front of the whole.
use Rattle.std.proofs.Common.{◌≡◌, ℕ, ◌+◌, ◌-◌, ap, refl, min, List, ◌++◌, take, drop, append_assoc, Result, Ok, Err, Some, None, IsErr, arith}
use Rattle.std.specs.declared.option.Option.{Option}
use Rattle.std.specs.Io.KnownBytes.{append_known}
use Rattle.std.proofs.Math.Seq.{take-add}
use Rattle.std.proofs.lemmas.Grind.{common_steps}
use Rattle.jn_io.specs.Told.{Takes}

pub append_both : (k : Option (List ℕ)) (a b : List ℕ) → append_known (append_known k a) b ≡ append_known k (a ++ b)
append_both None a b = refl
append_both (Some xs) a b = ap (λ (ys : List ℕ). Some ys) (append_assoc xs a b)

behind : (f n : ℕ) → f + n - f ≡ n
behind f n = omega arith

-- A whole piece behind a front.
pub piece_put : (k a b : Option (List ℕ)) (xs : List ℕ) (f n : ℕ) → a ≡ append_known k (take f xs) → b ≡ append_known a (take (f + n - f) (drop f xs)) → b ≡ append_known k (take (f + n) xs)
piece_put k a b xs f n front more = rw (take-add f n xs, ← append_both k (take f xs) (take n (drop f xs)), ← front) (rw (behind f n) at more)

take_both : (m n : ℕ) (xs : List ℕ) → take m (take n xs) ≡ take (min m n) xs
take_both m n xs = grind (arith, common_steps)

-- A part of a piece behind a front.
pub part_put : (k a b : Option (List ℕ)) (xs : List ℕ) (f n m : ℕ) → a ≡ append_known k (take f xs) → b ≡ append_known a (take m (take (f + n - f) (drop f xs))) → (x : ℕ) × (b ≡ append_known k (take x xs))
part_put k a b xs f n m front more = (f + min m n, rw (take-add f (min m n) xs, ← append_both k (take f xs) (take (min m n) (drop f xs)), ← front, ← take_both m n (drop f xs)) (rw (behind f n) at more))

-- What a failed call says of its sink.
pub failed_takes : {T E : Type 0} (old new : Option (List ℕ)) (bytes : List ℕ) (r : Result T E) → IsErr r → (x : ℕ) × (new ≡ append_known old (take x bytes)) → Takes old new bytes r
failed_takes old new bytes (Ok x) is some = absurd (cc)
failed_takes old new bytes (Err x) is some = some
