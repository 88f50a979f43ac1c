-- Pairs in order, each once.
use Rattle.std.proofs.Common.{◌≡◌, ◌↔◌, ℕ, List, [], Contains, refl, ap, subst, sym, ◌∙◌, IsPermutation}
use Rattle.std.specs.declared.cmp.Ordering.{Ordering}
use Rattle.std.specs.declared.cmp.Ordering.TheVariants.{Less, Equal, Greater}
use Rattle.std.specs.List.Sorted.{IsSorted, IsStrictlySortedBy}
use Rattle.std.specs.List.Retain.{IsFiltered, DiffersFromLast}
use Rattle.std.specs.Ordering.{nat_cmp, eq_by_cmp, ordering_then}
use Rattle.std.specs.Cmp.{eq_by_cmp_equiv}
use Rattle.std.proofs.lemmas.List.Filters.{dedup_is}
use Rattle.std.proofs.lemmas.List.Kept.{Contains-dedup, Contains-from_dedup, IsStrictlySortedBy-dedup}
use Rattle.std.proofs.lemmas.List.Sorted.{Contains-permutation, IsPermutation-sym}
use Rattle.std.proofs.lemmas.Map.Lookups.{exact_unsigned}
use Rattle.std.proofs.lemmas.Map.Views.{tells_apart}
use Rattle.jn_layout.specs.declared.pairs.Pair.{Pair}
use Rattle.jn_layout.specs.Pairs.{pair_cmp, pair_total}

then_second : (r s : Ordering) → ordering_then r s ≡ Equal → s ≡ Equal
then_second Less s e = cc
then_second Equal s e = e
then_second Greater s e = cc

then_first : (r s : Ordering) → ordering_then r s ≡ Equal → r ≡ Equal
then_first Less s e = cc
then_first Equal s e = refl
then_first Greater s e = cc

-- what ties is the same
pub pair_exact : (x y : Pair) → pair_cmp x y ≡ Equal → x ≡ y
pair_exact x y e =
    let k = exact_unsigned x.key y.key (then_first (nat_cmp x.key y.key) (nat_cmp x.value y.value) e) in
    let v = exact_unsigned x.value y.value (then_second (nat_cmp x.key y.key) (nat_cmp x.value y.value) e) in
    ap (λ (n : ℕ). record { key = n; value = x.value }) k ∙ ap (λ (n : ℕ). record { key = y.key; value = n }) v

pub deduped_same : (xs ys zs : List Pair) → IsPermutation xs ys → IsFiltered (DiffersFromLast (eq_by_cmp pair_cmp)) [] ys zs
    → (n : Pair) → Contains zs n ↔ Contains xs n
deduped_same xs ys zs p f n =
    let e = dedup_is (eq_by_cmp pair_cmp) ys zs f in (
      λ h. Contains-permutation ys xs n (IsPermutation-sym xs ys p)
          (Contains-from_dedup (eq_by_cmp pair_cmp) ys n (subst (λ (l : List Pair). Contains l n) e h)),
      λ h. subst (λ (l : List Pair). Contains l n) (sym e)
          (Contains-dedup (eq_by_cmp_equiv pair_total) (tells_apart pair_exact) ys n (Contains-permutation xs ys n p h)),
    )

pub deduped_sorted : (ys zs : List Pair) → IsSorted pair_cmp ys → IsFiltered (DiffersFromLast (eq_by_cmp pair_cmp)) [] ys zs
    → IsStrictlySortedBy pair_cmp zs
deduped_sorted ys zs s f =
    subst (IsStrictlySortedBy pair_cmp) (sym (dedup_is (eq_by_cmp pair_cmp) ys zs f))
    (IsStrictlySortedBy-dedup pair_total (λ x y. refl) ys s)
