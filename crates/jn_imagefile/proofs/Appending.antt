-- Writing one item after another, as a loop does.
use Rattle.std.proofs.Common.{◌≡◌, ℕ, ◌+◌, ◌<◌, ◌≤◌, List, [], ◌∷◌, ◌++◌, length, take, get_or, All, sym, ap, ◌∙◌, subst, append_assoc, inl, inr, ◌⊎◌, arith}
use Rattle.std.specs.List.{flat_map, AllWithin}
use Rattle.std.proofs.lemmas.Bool.{cases_lt}
use Rattle.std.proofs.lemmas.Grind.{flat_map-append}
use Rattle.std.proofs.lemmas.List.{append-nil, take_more, take_all, get_or_default}
use Rattle.jn_imagefile.specs.Appends.{Appends}

module _ {A : Type 0} (f : A → List ℕ) (P : A → Type 0) (xs : List A) (i : ℕ) (old : List ℕ) where
  pub appends_more : (x : A) (mid new : List ℕ) → i < length xs → x ≡ get_or xs i x → Appends (flat_map f (take i xs)) (AllWithin P xs 0 i) old mid → Appends (f x) (P x) mid new → Appends (flat_map f (take (i + 1) xs)) (AllWithin P xs 0 (i + 1)) old new
  appends_more x mid new lt is a b =
      let front = flat_map f (take i xs) in
      let last : take (i + 1) xs ≡ take i xs ++ x ∷ [] = take_more xs i x lt ∙ ap (λ y. take i xs ++ y ∷ []) (sym is) in
      let spelled : flat_map f (take (i + 1) xs) ≡ front ++ f x = ap (flat_map f) last ∙ flat_map-append f (take i xs) (x ∷ []) ∙ ap (λ s. front ++ s) (append-nil (f x)) in
      record {
        same = b.same ∙ ap (λ s. s ++ f x) a.same ∙ append_assoc old front (f x) ∙ ap (λ s. old ++ s) (sym spelled);
        fits = λ k d low high. at k d (cases_lt k i) high;
      }
    where
      at : (k : ℕ) (d : A) → (k < i) ⊎ (i ≤ k) → k < i + 1 → P (get_or xs k d)
      at k d (inl less) high = a.fits k d (omega arith) less
      at k d (inr more) high =
          let e : i ≡ k = omega arith in
          let here : P (get_or xs i d) = subst P (is ∙ get_or_default xs i x d lt) b.fits in subst (λ n. P (get_or xs n d)) e here

  pub appends_whole : (new : List ℕ) → length xs ≤ i → Appends (flat_map f (take i xs)) (AllWithin P xs 0 i) old new → Appends (flat_map f xs) (All P xs) old new
  appends_whole new le a = record {
    same = a.same ∙ ap (λ ys. old ++ flat_map f ys) (take_all i xs le);
    fits = λ k d lt. a.fits k d (omega arith) (omega arith);
  }
