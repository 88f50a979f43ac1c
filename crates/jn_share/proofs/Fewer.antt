-- A list without doubles whose elements all stand in another one is no longer.
use Rattle.std.proofs.Common.{◌≡◌, ◌≤◌, ◌⊎◌, inl, inr, suc, List, [], ◌∷◌, length, Contains, refl, sym, ap, ◌∙◌, subst, arith}
use Rattle.jn_base.proofs.NameTests.{in_cons, in_none, first, later}
use Rattle.jn_share.specs.Keys.{IsOnce}
use Rattle.jn_share.proofs.EntryLists.{place}

-- ys without y: one shorter, and with all others
record Without {X : Type 0} (ys : List X) (y : X) : Type 0 where
  rest : List X
  long : length ys ≡ suc (length rest)
  others : (z : X) → Contains ys z → (z ≡ y) ⊎ Contains rest z

here : {X : Type 0} (w y : X) (ys : List X) → w ≡ y → (z : X) → (w ≡ z) ⊎ Contains ys z → (z ≡ y) ⊎ Contains ys z
here w y ys e z (inl q) = inl (sym q ∙ e)
here w y ys e z (inr m) = inr m

behind : {X : Type 0} (w : X) (ys : List X) (y : X) (r : Without ys y) → (z : X) → (w ≡ z) ⊎ Contains ys z → (z ≡ y) ⊎ Contains (w ∷ r.rest) z
behind w ys y r z (inl q) = inr (subst (Contains (w ∷ r.rest)) q (first w r.rest))
behind w ys y r z (inr m) = elim (r.others z m) [ inl e ↦ inl e | inr n ↦ inr (later w r.rest z n) ]

without_at : {X : Type 0} (w : X) (ys : List X) (y : X) → (Contains ys y → Without ys y) → (w ≡ y) ⊎ Contains ys y → Without (w ∷ ys) y
without_at w ys y h (inl e) = record { rest = ys; long = refl; others = λ z m. here w y ys e z (in_cons w ys z m) }
without_at w ys y h (inr m) = let r = h m in record { rest = w ∷ r.rest; long = ap suc r.long; others = λ z n. behind w ys y r z (in_cons w ys z n) }

without : {X : Type 0} (ys : List X) (y : X) → Contains ys y → Without ys y
without [] y c = absurd (in_none y c)
without (w ∷ ys) y c = without_at w ys y (without ys y) (in_cons w ys y c)

other : {X : Type 0} (x : X) (xs rest : List X) → IsOnce (x ∷ xs) → (z : X) → Contains xs z → (z ≡ x) ⊎ Contains rest z → Contains rest z
other x xs rest o z m (inr n) = n
other x xs rest o z m (inl e) = let c = subst (Contains xs) e m in absurd (omega (arith, o 0 (suc c.0) x refl (place xs x c)))

pub no_longer : {X : Type 0} (xs ys : List X) → IsOnce xs → ((x : X) → Contains xs x → Contains ys x) → length xs ≤ length ys
no_longer [] ys o h = omega arith
no_longer {X} (x ∷ xs) ys o h =
    let r = without ys x (h x (first x xs)) in
    let q = no_longer xs r.rest (λ i j y e f. omega (arith, o (suc i) (suc j) y e f)) (λ z m. other x xs r.rest o z m (r.others z (h z (later x xs z m)))) in
    omega (arith, q, r.long)
