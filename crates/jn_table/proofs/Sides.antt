-- The places of two lists, one behind the other.
use Rattle.std.proofs.Common.{◌≡◌, ◌+◌, ℕ, List, [], ◌∷◌, ◌++◌, length, slice_get, Some, arith, subst, zero, suc}

-- a place of two lists is one of the first, or one of the second
pub data Side {X : Type 0} (xs ys : List X) (k : ℕ) (x : X) : Type 0 where
  front : slice_get xs k ≡ Some x → Side xs ys k x
  back : (j : ℕ) → k ≡ length xs + j → slice_get ys j ≡ Some x → Side xs ys k x

pub side : {X : Type 0} (xs ys : List X) (k : ℕ) (x : X) → slice_get (xs ++ ys) k ≡ Some x → Side xs ys k x
side [] ys k x at = back k (omega arith) at
side (z ∷ zs) ys zero x at = front at
side (z ∷ zs) ys (suc k) x at = further (side zs ys k x at) where
  further : Side zs ys k x → Side (z ∷ zs) ys (suc k) x
  further (front a) = front a
  further (back j e a) = back j (omega (arith, e)) a

pub left : {X : Type 0} (xs ys : List X) (k : ℕ) (x : X) → slice_get xs k ≡ Some x → slice_get (xs ++ ys) k ≡ Some x
left [] ys k x at = absurd (cc at)
left (z ∷ zs) ys zero x at = at
left (z ∷ zs) ys (suc k) x at = left zs ys k x at

pub right : {X : Type 0} (xs ys : List X) (k : ℕ) (x : X) → slice_get ys k ≡ Some x
    → slice_get (xs ++ ys) (length xs + k) ≡ Some x
right [] ys k x at = subst (λ (j : ℕ). slice_get ys j ≡ Some x) (let e : k ≡ 0 + k = omega arith in e) at
right (z ∷ zs) ys k x at =
    subst (λ (j : ℕ). slice_get (z ∷ (zs ++ ys)) j ≡ Some x)
    (let e : suc (length zs + k) ≡ suc (length zs) + k = omega arith in e) (right zs ys k x at)
