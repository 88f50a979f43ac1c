-- The homes of all numbers, one after the other.
use Rattle.std.proofs.Common.{◌≡◌, ◌<◌, ◌≤◌, ◌+◌, ◌⊎◌, inl, inr, ℕ, zero, suc, List, [], ◌∷◌, ◌++◌, length, Some, Option, slice_get, refl, sym, ap, ◌∙◌, subst, arith}
use Rattle.std.proofs.lemmas.Bool.{cases_lt}
use Rattle.jn_base.specs.declared.tree.Place.{Place}
use Rattle.jn_base.specs.declared.tree.Program.{Program}
use Rattle.jn_base.specs.declared.path.Path.{Path as ShownPath}
use Rattle.jn_base.specs.Paths.{Path}
use Rattle.jn_base.specs.Duplicates.{duplicates}
use Rattle.jn_homes.specs.Homes.{HomeIs}
use Rattle.jn_share.specs.Homes.{HomesTo}
use Rattle.jn_share.specs.Pairing.{IsAt}

still : {A : Type 0} (xs : List A) (y : A) (i : ℕ) (x : A) → slice_get xs i ≡ Some x → slice_get (xs ++ y ∷ []) i ≡ Some x
still [] y i x q = absurd (cc q)
still (z ∷ zs) y zero x q = q
still (z ∷ zs) y (suc i) x q = still zs y i x q

last : {A : Type 0} (xs : List A) (y : A) → slice_get (xs ++ y ∷ []) (length xs) ≡ Some y
last [] y = refl
last (z ∷ zs) y = last zs y

pub homes_push : (p : Program) (known : List ShownPath) (homes after : List (Option Place)) (k : ℕ) (home : Option Place) → after ≡ homes ++ home ∷ [] → length homes ≡ k
    → (duplicates p ≡ [] → (R : Path) → IsAt known k R → HomeIs p R home) → HomesTo p known k homes → HomesTo p known (k + 1) after
homes_push p known homes after k home e l h all d j R m a = by_place (cases_lt j k) where
  by_place : (j < k) ⊎ (k ≤ j) → (x : Option Place) × (slice_get after j ≡ Some x) × HomeIs p R x
  by_place (inl b) =
      let x = all d j R b a in
      (x.0, subst (λ (xs : List (Option Place)). slice_get xs j ≡ Some x.0) (sym e) (still homes home j x.0 x.1), x.2)
  by_place (inr b) =
      let same : k ≡ j = omega arith in (
        home,
        subst (λ (xs : List (Option Place)). slice_get xs j ≡ Some home) (sym e) (ap (slice_get (homes ++ home ∷ [])) (sym same ∙ sym l) ∙ last homes home),
        h d R (subst (λ (i : ℕ). IsAt known i R) (sym same) a),
      )
