-- Atoms sorted and without doubles.
use Rattle.std.proofs.Common.{◌≡◌, ◌↔◌, List, [], Contains, IsPermutation, refl, sym, subst}
use Rattle.std.specs.List.Sorted.{IsSorted, IsStrictlySortedBy}
use Rattle.std.specs.List.Retain.{IsFiltered, DiffersFromLast}
use Rattle.std.specs.Ordering.{eq_by_cmp}
use Rattle.std.specs.Cmp.{eq_by_cmp_equiv}
use Rattle.std.proofs.lemmas.List.Filters.{dedup_is}
use Rattle.std.proofs.lemmas.List.Kept.{Contains-dedup, Contains-from_dedup, IsStrictlySortedBy-dedup}
use Rattle.std.proofs.lemmas.List.Sorted.{Contains-permutation, IsPermutation-sym}
use Rattle.std.proofs.lemmas.Map.Views.{tells_apart}
use Rattle.jn_base.specs.Atoms.{Atom}
use Rattle.jn_sem.specs.Normal.{atom_cmp, atom_total}
use Rattle.jn_sem.specs.NormalFunction.{in_order}
use Rattle.jn_sem.proofs.AtomOrder.{same_atom, order_sorted, order_each, order_only}
use Rattle.jn_sem.proofs.Codes.{among_of, contains_of}
use Rattle.jn_sem.proofs.NormalTypes.{sorted_once}

deduped_same : (xs ys zs : List Atom) → IsPermutation xs ys → IsFiltered (DiffersFromLast (eq_by_cmp atom_cmp)) [] ys zs
    → (x : Atom) → Contains zs x ↔ Contains xs x
deduped_same xs ys zs p f x =
    let e = dedup_is (eq_by_cmp atom_cmp) ys zs f in (
      λ h. Contains-permutation ys xs x (IsPermutation-sym xs ys p) (Contains-from_dedup (eq_by_cmp atom_cmp) ys x (subst (λ (l : List Atom). Contains l x) e h)),
      λ h. subst (λ (l : List Atom). Contains l x) (sym e)
          (Contains-dedup (eq_by_cmp_equiv atom_total) (tells_apart same_atom) ys x (Contains-permutation xs ys x p h)),
    )

deduped_sorted : (ys zs : List Atom) → IsSorted atom_cmp ys → IsFiltered (DiffersFromLast (eq_by_cmp atom_cmp)) [] ys zs
    → IsStrictlySortedBy atom_cmp zs
deduped_sorted ys zs s f =
    subst (IsStrictlySortedBy atom_cmp) (sym (dedup_is (eq_by_cmp atom_cmp) ys zs f)) (IsStrictlySortedBy-dedup atom_total (λ x y. refl) ys s)

-- a sort and a `dedup`
pub order_is : (xs ys zs : List Atom) → IsPermutation xs ys → IsSorted atom_cmp ys → IsFiltered (DiffersFromLast (eq_by_cmp atom_cmp)) [] ys zs
    → zs ≡ in_order xs
order_is xs ys zs p s f =
    let same = deduped_same xs ys zs p f in
    sorted_once atom_total zs (in_order xs) (deduped_sorted ys zs s f) (order_sorted xs)
    (λ x m. order_each xs x (among_of xs x ((same x).0 (contains_of zs x m))))
    (λ x m. among_of zs x ((same x).1 (contains_of xs x (order_only xs x m))))
