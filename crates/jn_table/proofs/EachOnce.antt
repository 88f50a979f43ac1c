-- Numbers in ascending order, each once.
use Rattle.std.proofs.Common.{◌≡◌, ℕ, List, [], Contains, IsPermutation, subst, sym, eqb}
use Rattle.std.specs.List.{dedup}
use Rattle.std.specs.List.Retain.{IsFiltered, DiffersFromLast}
use Rattle.std.specs.List.Sorted.{IsSorted, IsStrictlyIncreasing}
use Rattle.std.specs.Ordering.{nat_cmp}
use Rattle.std.proofs.lemmas.List.Filters.{dedup_is}
use Rattle.std.proofs.lemmas.List.Kept.{Contains-dedup_nat, Contains-from_dedup}
use Rattle.std.proofs.lemmas.List.Sorted.{Contains-permutation, IsPermutation-sym}
use Rattle.std.proofs.lemmas.Map.Keys.{IsStrictlyIncreasing-dedup}
use Rattle.jn_reach.specs.Graph.{Lists}

pub each_once : (xs ys zs : List ℕ) → IsPermutation xs ys → IsSorted nat_cmp ys
    → IsFiltered (DiffersFromLast eqb) [] ys zs → Lists (Contains xs) zs
each_once xs ys zs p s f =
    let e : zs ≡ dedup eqb ys = dedup_is eqb ys zs f in
    record {
      exact = λ b. (
        λ c. Contains-permutation ys xs b (IsPermutation-sym xs ys p)
            (Contains-from_dedup eqb ys b (subst (λ (l : List ℕ). Contains l b) e c)),
        λ c. subst (λ (l : List ℕ). Contains l b) (sym e)
            (Contains-dedup_nat ys b (Contains-permutation xs ys b p c)),
      );
      ascending = subst IsStrictlyIncreasing (sym e) (IsStrictlyIncreasing-dedup ys s);
    }
