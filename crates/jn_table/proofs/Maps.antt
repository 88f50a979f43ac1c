-- The items of mapped lists.
use Rattle.std.proofs.Common.{◌≡◌, ◌<◌, ◌≤◌, ◌+◌, ◌++◌, ◌∙◌, ℕ, List, [], ◌∷◌, length, drop, get_or, ap, append_assoc, append-nil, add-one, slice_get, Some, arith, sym, refl, zero, suc, map, Contains}
use Rattle.std.proofs.lemmas.Option.{slice_get_within, slice_get_read, get_or_from_slice_get}
use Rattle.std.proofs.Math.ListN.{drop_of_length-le}
use Rattle.std.proofs.Math.Seq.{drop-cons}
use Rattle.jn_reach.specs.Each.{Each, none, more}

pub at_map : {A B : Type 0} (f : A → B) (xs : List A) (i : ℕ) (y : B) → slice_get (map f xs) i ≡ Some y
    → (x : A) × (slice_get xs i ≡ Some x) × (f x ≡ y)
at_map f [] i y at = absurd (cc at)
at_map f (x ∷ xs) zero y at = (x, refl, (let e : f x ≡ y = cc at in e))
at_map f (x ∷ xs) (suc i) y at = at_map f xs i y at

pub in_mapped : {A B : Type 0} (f : A → B) (xs : List A) (i : ℕ) (x : A) (y : B) → slice_get xs i ≡ Some x
    → f x ≡ y → Contains (map f xs) y
in_mapped f [] i x y at e = absurd (cc at)
in_mapped f (z ∷ xs) zero x y at e = (0, omega arith, (let h : f z ≡ y = cc (at, e) in h))
in_mapped f (z ∷ xs) (suc i) x y at e =
    let c = in_mapped f xs i x y at e in
    (suc c.0, omega (arith, c.1), c.2)

pub each_maps : {A B C : Type 0} (R : B → C → Type 0) (f : A → B) (g : A → C) (xs : List A)
    → ((k : ℕ) (x : A) → slice_get xs k ≡ Some x → R (f x) (g x)) → Each R (map f xs) (map g xs)
each_maps R f g [] h = none
each_maps R f g (x ∷ xs) h = more (h 0 x refl) (each_maps R f g xs (λ k y at. h (suc k) y at))

pub each_left : {A B : Type 0} (R : B → A → Type 0) (f : A → B) (xs : List A)
    → ((k : ℕ) (x : A) → slice_get xs k ≡ Some x → R (f x) x) → Each R (map f xs) xs
each_left R f [] h = none
each_left R f (x ∷ xs) h = more (h 0 x refl) (each_left R f xs (λ k y at. h (suc k) y at))

pub each_right : {A B : Type 0} (R : A → B → Type 0) (xs : List A) (ys : List B) → length ys ≡ length xs
    → ((k : ℕ) (x : A) (y : B) → slice_get xs k ≡ Some x → slice_get ys k ≡ Some y → R x y) → Each R xs ys
each_right R [] [] l h = none
each_right R [] (y ∷ ys) l h = absurd (omega (arith, l))
each_right R (x ∷ xs) [] l h = absurd (omega (arith, l))
each_right R (x ∷ xs) (y ∷ ys) l h =
    more (h 0 x y refl refl) (each_right R xs ys (omega (arith, l)) (λ k a b at bt. h (suc k) a b at bt))

-- between the two ways to say that a list has a thing
pub in_list : {A : Type 0} (xs : List A) (k : ℕ) (x : A) → slice_get xs k ≡ Some x → Contains xs x
in_list xs k x at = (k, slice_get_within xs k x at, get_or_from_slice_get xs k x x at)

pub list_at : {A : Type 0} (xs : List A) (x : A) → Contains xs x → (k : ℕ) × (slice_get xs k ≡ Some x)
list_at xs x c = (c.0, slice_get_read xs (length xs) c.0 x refl c.1 (sym c.2))

-- ---- loops that push what they map

-- behind the items before comes that of the item at i
pub mapped_at : {A B : Type 0} (f : A → B) (xs : List A) (i : ℕ) (d : A) (before now : List B) → i < length xs
    → before ++ map f (drop i xs) ≡ map f xs
    → now ≡ before ++ f (get_or xs i d) ∷ [] → now ++ map f (drop (i + 1) xs) ≡ map f xs
mapped_at {A} {B} f xs i d before now l so_far put =
    let y : B = f (get_or xs i d) in
    let here : map f (drop i xs) ≡ y ∷ map f (drop (i + 1) xs) =
    ap (map f) (drop-cons xs i d l) ∙ ap (λ (n : ℕ). y ∷ map f (drop n xs)) (sym (add-one i)) in
    ap (λ (ys : List B). ys ++ map f (drop (i + 1) xs)) put ∙ (append_assoc before (y ∷ []) (map f (drop (i + 1) xs))
    ∙ (ap (λ (ys : List B). before ++ ys) (sym here) ∙ so_far))

pub mapped_more : {A B : Type 0} (f : A → B) (xs : List A) (i : ℕ) (x : A) (y : B) (before now : List B)
    → i < length xs → x ≡ get_or xs i x
    → before ++ map f (drop i xs) ≡ map f xs → y ≡ f x → now ≡ before ++ y ∷ []
    → now ++ map f (drop (i + 1) xs) ≡ map f xs
mapped_more {A} {B} f xs i x y before now l is so_far same put =
    mapped_at f xs i x before now l so_far (put ∙ ap (λ (z : B). before ++ z ∷ []) (same ∙ ap f is))

pub mapped_all : {A B : Type 0} (f : A → B) (xs : List A) (i : ℕ) (now : List B) → length xs ≤ i
    → now ++ map f (drop i xs) ≡ map f xs → now ≡ map f xs
mapped_all {A} {B} f xs i now past so_far =
    sym (append-nil now) ∙ (ap (λ (ys : List A). now ++ map f ys) (sym (drop_of_length-le xs past)) ∙ so_far)
