-- Lists to which those elements are added that have some property.
use Rattle.std.proofs.Common.{◌≡◌, ◌↔◌, ◌<◌, ◌≤◌, ◌+◌, ℕ, List, [], ◌∷◌, ◌++◌, length, take, get_or, Contains, All, sym, ap, ◌∙◌, subst, arith, ◌⊎◌, inl, inr}
use Rattle.std.proofs.lemmas.List.{take_more, take_all}
use Rattle.std.proofs.lemmas.List.Elements.{Contains-append_left, Contains-append_right, Contains-append_cases, Contains-push, Contains-push_cases, All-weaker, All-contains_itself}
use Rattle.jn_base.proofs.NameTests.{in_none}
use Rattle.jn_subtype.specs.Turns.{Adds}

-- x comes from an element of the list
pub record FromOne {A B : Type 0} (R : A → B → Type 0) (ys : List A) (x : B) : Type 0 where
  pub origin : A
  pub among : Contains ys origin
  pub by : R origin x

-- x is one of the first n of a sequence
pub record Upto {A : Type 0} (f : ℕ → A) (n : ℕ) (x : A) : Type 0 where
  pub place : ℕ
  pub below : place < n
  pub is : x ≡ f place

pub adds_none : {A : Type 0} (P : A → Type 0) (xs : List A) → ((x : A) → P x → ⊥) → Adds P xs xs
adds_none {A} P xs none = record { each = λ x. (λ h. inl h, back x) } where
  back : (x : A) → Contains xs x ⊎ P x → Contains xs x
  back x (inl h) = h
  back x (inr h) = absurd (none x h)

pub adds_one : {A : Type 0} (P : A → Type 0) (xs : List A) (y : A) → P y → ((x : A) → P x → y ≡ x) → Adds P xs (xs ++ y ∷ [])
adds_one {A} P xs y one only = record { each = λ x. (λ h. to x (Contains-push_cases xs y x h), back x) } where
  to : (x : A) → Contains xs x ⊎ (y ≡ x) → Contains xs x ⊎ P x
  to x (inl h) = inl h
  to x (inr e) = inr (subst P e one)

  back : (x : A) → Contains xs x ⊎ P x → Contains (xs ++ y ∷ []) x
  back x (inl h) = Contains-append_left xs (y ∷ []) x h
  back x (inr h) = subst (Contains (xs ++ y ∷ [])) (only x h) (Contains-push xs y)

pub adds_list : {A : Type 0} (P : A → Type 0) (xs ys : List A) → ((x : A) → Contains ys x ↔ P x) → Adds P xs (xs ++ ys)
adds_list {A} P xs ys same = record { each = λ x. (λ h. to x (Contains-append_cases xs ys x h), back x) } where
  to : (x : A) → Contains xs x ⊎ Contains ys x → Contains xs x ⊎ P x
  to x (inl h) = inl h
  to x (inr h) = inr ((same x).0 h)

  back : (x : A) → Contains xs x ⊎ P x → Contains (xs ++ ys) x
  back x (inl h) = Contains-append_left xs ys x h
  back x (inr h) = Contains-append_right xs ys x ((same x).1 h)

-- all that were added to none
pub adds_all : {A : Type 0} {P : A → Type 0} {xs : List A} → Adds P [] xs → (x : A) → Contains xs x ↔ P x
adds_all {A} {P} {xs} a x = (λ h. to ((a.each x).0 h), λ h. (a.each x).1 (inr h)) where
  to : Contains {X = A} [] x ⊎ P x → P x
  to (inl h) = absurd (in_none x h)
  to (inr h) = h

-- from the elements of a list, one after another

pub adds_first : {A B : Type 0} (R : A → B → Type 0) (xs : List B) → Adds (FromOne R []) xs xs
adds_first R xs = adds_none (FromOne R []) xs (λ x h. in_none h.origin h.among)

pub adds_more : {A B : Type 0} (R : A → B → Type 0) (ys : List A) (i : ℕ) (y : A) (old mid new : List B) → i < length ys
    → y ≡ get_or ys i y
    → Adds (FromOne R (take i ys)) old mid → Adds (R y) mid new → Adds (FromOne R (take (i + 1) ys)) old new
adds_more {A} {B} R ys i y old mid new l e a b =
    subst (λ (ts : List A). Adds (FromOne R ts) old new) (sym (take_more ys i y l ∙ ap (λ (z : A). take i ys ++ z ∷ []) (sym e))) whole where
      to_last : (x : B) → Contains old x ⊎ FromOne R (take i ys) x → Contains old x ⊎ FromOne R (take i ys ++ y ∷ []) x
      to_last x (inl h) = inl h
      to_last x (inr h) = inr (record { origin = h.origin; among = Contains-append_left (take i ys) (y ∷ []) h.origin h.among; by = h.by })

      to : (x : B) → Contains mid x ⊎ R y x → Contains old x ⊎ FromOne R (take i ys ++ y ∷ []) x
      to x (inl h) = to_last x ((a.each x).0 h)
      to x (inr h) = inr (record { origin = y; among = Contains-push (take i ys) y; by = h })

      by_place : (x : B) (z : A) → R z x → Contains (take i ys) z ⊎ (y ≡ z) → Contains new x
      by_place x z r (inl h) = (b.each x).1 (inl ((a.each x).1 (inr (record { origin = z; among = h; by = r }))))
      by_place x z r (inr h) = (b.each x).1 (inr (subst (λ (t : A). R t x) (sym h) r))

      back : (x : B) → Contains old x ⊎ FromOne R (take i ys ++ y ∷ []) x → Contains new x
      back x (inl h) = (b.each x).1 (inl ((a.each x).1 (inl h)))
      back x (inr h) = by_place x h.origin h.by (Contains-push_cases (take i ys) y h.origin h.among)

      whole : Adds (FromOne R (take i ys ++ y ∷ [])) old new
      whole = record { each = λ x. (λ h. to x ((b.each x).0 h), back x) }

pub adds_whole : {A B : Type 0} (R : A → B → Type 0) (ys : List A) (i : ℕ) (old new : List B) → length ys ≤ i
    → Adds (FromOne R (take i ys)) old new → Adds (FromOne R ys) old new
adds_whole {A} R ys i old new l a = subst (λ (ts : List A). Adds (FromOne R ts) old new) (take_all i ys l) a

-- along a sequence

pub upto_none : {A : Type 0} (f : ℕ → A) → Adds (Upto f 0) [] []
upto_none f = adds_none (Upto f 0) [] (λ x h. omega (arith, h.below))

pub upto_more : {A : Type 0} (f : ℕ → A) (i : ℕ) (xs : List A) (y : A) → y ≡ f i → Adds (Upto f i) [] xs
    → Adds (Upto f (i + 1)) [] (xs ++ y ∷ [])
upto_more {A} f i xs y e a = record { each = λ x. (λ h. to x (Contains-push_cases xs y x h), back x) } where
  more : (x : A) → Contains [] x ⊎ Upto f i x → Contains [] x ⊎ Upto f (i + 1) x
  more x (inl h) = inl h
  more x (inr h) = inr (record { place = h.place; below = omega (arith, h.below); is = h.is })

  to : (x : A) → Contains xs x ⊎ (y ≡ x) → Contains [] x ⊎ Upto f (i + 1) x
  to x (inl h) = more x ((a.each x).0 h)
  to x (inr h) = inr (record { place = i; below = omega arith; is = sym h ∙ e })

  by_place : (x : A) (j : ℕ) → x ≡ f j → j < i + 1 → (j < i) ⊎ (j ≡ i) → Contains (xs ++ y ∷ []) x
  by_place x j is l (inl h) = Contains-append_left xs (y ∷ []) x ((a.each x).1 (inr (record { place = j; below = h; is = is })))
  by_place x j is l (inr h) = subst (Contains (xs ++ y ∷ [])) (e ∙ sym (is ∙ ap f h)) (Contains-push xs y)

  back : (x : A) → Contains [] x ⊎ Upto f (i + 1) x → Contains (xs ++ y ∷ []) x
  back x (inl h) = absurd (in_none x h)
  back x (inr h) = by_place x h.place h.is h.below (last h.place i h.below) where
    last : (j n : ℕ) → j < n + 1 → (j < n) ⊎ (j ≡ n)
    last j n l = grind arith

pub all_from : {A : Type 0} (P : A → Type 0) (xs : List A) → ((x : A) → Contains xs x → P x) → All P xs
all_from P xs h = All-weaker (Contains xs) P h xs (All-contains_itself xs)
