-- Lists.
use Rattle.std.proofs.Common.{◌≡◌, ℕ, zero, suc, List, [], ◌∷◌, ◌++◌, take, drop, length, ◌≤◌, arith, Option, Some, None, Result, Ok, Err, refl, ap}
use Rattle.std.specs.Prelude.{IfSome, IfOk, OnOk}

pub take_drop : {X : Type 0} (n : ℕ) (xs : List X) → take n xs ++ drop n xs ≡ xs
take_drop zero xs = refl
take_drop (suc n) [] = refl
take_drop {X} (suc n) (x ∷ xs) = ap (λ (ys : List X). x ∷ ys) (take_drop n xs)

pub if_some : {A : Type 0} {P Q : A → Type 0} (o : Option A) → ((a : A) → P a → Q a) → IfSome o P → IfSome o Q
if_some None f h = h
if_some (Some a) f h = f a h

pub if_ok : {A E : Type 0} {P Q : A → Type 0} (r : Result A E) → ((a : A) → P a → Q a) → IfOk r P → IfOk r Q
if_ok (Ok a) f h = f a h
if_ok (Err e) f h = h

pub on_ok : {A E : Type 0} {P Q : Type 0} (r : Result A E) → (P → Q) → OnOk r P → OnOk r Q
on_ok (Ok a) f h = f h
on_ok (Err e) f h = h

pub take_all : {X : Type 0} (n : ℕ) (xs : List X) → length xs ≤ n → take n xs ≡ xs
take_all zero [] l = refl
take_all {X} zero (x ∷ xs) l = absurd (omega (arith, l))
take_all (suc n) [] l = refl
take_all {X} (suc n) (x ∷ xs) l = ap (λ (ys : List X). x ∷ ys) (take_all n xs (omega (arith, l)))
