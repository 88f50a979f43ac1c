-- Places of keys, searched by halves.
use Rattle.std.proofs.Common.{◌≡◌, ◌<◌, ◌≤◌, ◌+◌, ◌⊎◌, ◌++◌, ℕ, List, [], ◌∷◌, true, false, leb, get_or, Contains, IsPermutation, Some, arith, ap, length, map, refl, slice_get, subst, suc, sym, zero, ◌∙◌, inl, inr}
use Rattle.std.specs.declared.cmp.Ordering.{Ordering}
use Rattle.std.specs.declared.cmp.Ordering.TheVariants.{Less, Equal, Greater}
use Rattle.std.specs.Ordering.{nat_cmp, is_lt, ordering_index, ordering_reverse, ordering_then}
use Rattle.std.specs.Cmp.{nat_cmp_is}
use Rattle.std.specs.Cmp.Lexicographic.{slice_cmp, nat_list_cmp_total}
use Rattle.std.specs.List.{AllWithin}
use Rattle.std.specs.List.Sorted.{IsPartitionPoint, IsPartitionedBy, IsSorted, IsSortedByKey}
use Rattle.std.proofs.lemmas.List.Sorted.{Contains-permutation, IsPermutation-sym, searchable_from_sorted, sorted_far, ranks_by, IsPartitionedBy-leb}
use Rattle.std.proofs.lemmas.Map.Lookups.{exact_bytes}
use Rattle.std.proofs.lemmas.Bool.{cases_lt}
use Rattle.std.proofs.lemmas.List.{map-append}
use Rattle.std.proofs.lemmas.Option.{slice_get_within, slice_get_read, get_or_from_slice_get}
use Rattle.jn_reach.proofs.Searches.{same_some}
use Rattle.jn_reach.proofs.Rows.{slice_get-push_cases}
use Rattle.jn_index.specs.Index.{placed_cmp, placed_total, comes_before, key_of, AreNumbered, IsPlaced, IsIndex, IsFirst}
use Rattle.jn_index.specs.declared.index.Placed.{Placed}

-- no list is before or behind itself
not_less : (xs : List ℕ) → slice_cmp nat_cmp xs xs ≡ Less → ⊥
not_less xs e =
    let c : Less ≡ Greater = sym e ∙ (nat_list_cmp_total.antisymm xs xs ∙ ap ordering_reverse e) in
    cc c

not_greater : (xs : List ℕ) → slice_cmp nat_cmp xs xs ≡ Greater → ⊥
not_greater xs e =
    let c : Greater ≡ Less = sym e ∙ (nat_list_cmp_total.antisymm xs xs ∙ ap ordering_reverse e) in
    cc c

tied_once : (xs : List ℕ) → slice_cmp nat_cmp xs xs ≡ Equal
tied_once xs = by (slice_cmp nat_cmp xs xs) refl where
  by : (r : Ordering) → slice_cmp nat_cmp xs xs ≡ r → r ≡ Equal
  by Less e = absurd (not_less xs e)
  by Equal e = refl
  by Greater e = absurd (not_greater xs e)

-- the place of a key among those of things, and back
pub key_at : {A : Type 0} (f : A → List ℕ) (xs : List A) (k : ℕ) (x : A) → slice_get xs k ≡ Some x → slice_get (map f xs) k ≡ Some (f x)
key_at f [] k x e = cc e
key_at f (y ∷ ys) zero x e = let h : y ≡ x = cc in ap (λ z. Some (f z)) h
key_at f (y ∷ ys) (suc k) x e = key_at f ys k x e

pub thing_at : {A : Type 0} (f : A → List ℕ) (xs : List A) (k : ℕ) (key : List ℕ) → slice_get (map f xs) k ≡ Some key
    → (x : A) × (slice_get xs k ≡ Some x) × (f x ≡ key)
thing_at f [] k key e = cc e
thing_at f (y ∷ ys) zero key e = (y, refl, same_some (Some (f y)) (f y) key refl e)
thing_at f (y ∷ ys) (suc k) key e = thing_at f ys k key e

pub are_indexed : (keys : List (List ℕ)) (xs ys : List Placed) → AreNumbered keys xs → IsPermutation xs ys → IsSorted placed_cmp ys → IsIndex keys ys
are_indexed keys xs ys all p s = record { sound = sound; complete = complete; sorted = s } where
  there : (k : ℕ) (x : Placed) → slice_get xs k ≡ Some x → slice_get keys k ≡ Some (key_of x)
  there k x e = subst (λ (l : List (List ℕ)). slice_get l k ≡ Some (key_of x)) all.keys_are (key_at key_of xs k x e)

  sound : (x : Placed) → Contains ys x → slice_get keys x.place ≡ Some (key_of x)
  sound x c =
      let d = Contains-permutation ys xs x (IsPermutation-sym xs ys p) c in
      let e = slice_get_read xs (length xs) d.0 x refl d.1 (sym d.2) in
      subst (λ (k : ℕ). slice_get keys k ≡ Some (key_of x)) (sym (all.placed d.0 x e)) (there d.0 x e)

  complete : (k : ℕ) (key : List ℕ) → slice_get keys k ≡ Some key → IsPlaced ys key k
  complete k key at =
      let t = thing_at key_of xs k key (subst (λ (l : List (List ℕ)). slice_get l k ≡ Some key) (sym all.keys_are) at) in record {
        one = t.0;
        among = Contains-permutation xs ys t.0 p (k, slice_get_within xs k t.0 t.1, get_or_from_slice_get xs k t.0 t.0 t.1);
        has = t.2;
        stands = all.placed k t.0 t.1;
      }

-- ---- in order

not_lt : (r s : Ordering) → is_lt (ordering_then r s) ≡ false → is_lt r ≡ false
not_lt Less s e = e
not_lt Equal s e = refl
not_lt Greater s e = e

by_key : (index : List Placed) → IsSorted placed_cmp index → IsSortedByKey key_of (slice_cmp nat_cmp) index
by_key index s k d a b =
    let x = get_or index (k + 1) d in
    let y = get_or index k d in
    not_lt (slice_cmp nat_cmp (key_of x) (key_of y)) (nat_cmp x.place y.place) (s k d a b)

pub parted : (index : List Placed) (key : List ℕ) → IsSorted placed_cmp index → IsPartitionedBy (comes_before key) index
parted index key s =
    IsPartitionedBy-leb (λ (x : Placed). ordering_index (slice_cmp nat_cmp (key_of x) key)) index 0
    (searchable_from_sorted nat_list_cmp_total key_of index key (by_key index s))

same_key : (key : List ℕ) (x : Placed) → key_of x ≡ key → comes_before key x ≡ false
same_key key x e = by (slice_cmp nat_cmp (key_of x) key) refl where
  by : (r : Ordering) → slice_cmp nat_cmp (key_of x) key ≡ r → leb (ordering_index r) 0 ≡ false
  by Less h = absurd (not_less key (subst (λ (l : List ℕ). slice_cmp nat_cmp l key ≡ Less) e h))
  by Equal h = refl
  by Greater h = refl

-- where the key can stand: none of the first ones has it
behind : (index : List Placed) (key : List ℕ) (at : ℕ) → AllWithin (λ (y : Placed). comes_before key y ≡ true) index 0 at → (x : Placed) → (w : Contains index x) → key_of x ≡ key → at ≤ w.0
behind index key at front x w e = elim (cases_lt w.0 at) [
  | inl below ↦
      let t : true ≡ false = sym (subst (λ (y : Placed). comes_before key y ≡ true) w.2 (front w.0 x (omega arith) below)) ∙ same_key key x e in
      cc t
  | inr past ↦ omega (arith, past)
]

unlike : (key other : List ℕ) → (other ≡ key → ⊥) → (r : Ordering) → slice_cmp nat_cmp other key ≡ r → leb (ordering_index r) 0 ≡ false
    → is_lt (slice_cmp nat_cmp key other) ≡ false → ⊥
unlike key other n Less h a b = cc a
unlike key other n Equal h a b = n (exact_bytes other key h)
unlike key other n Greater h a b =
    let c : slice_cmp nat_cmp key other ≡ Less = nat_list_cmp_total.antisymm key other ∙ ap ordering_reverse h in
    let t = subst (λ (r : Ordering). is_lt r ≡ false) c b in
    cc t

module _ (keys : List (List ℕ)) (index : List Placed) (key : List ℕ) (at : ℕ) (are : IsIndex keys index)
    (p : IsPartitionPoint (λ (y : Placed). comes_before key y ≡ true) (λ (y : Placed). comes_before key y ≡ false) index at) where
  pub past_all : length index ≤ at → (k : ℕ) → slice_get keys k ≡ Some key → ⊥
  past_all l k e =
      let w = are.complete k key e in
      let c = behind index key at p.0 w.one w.among w.has in
      absurd (omega (arith, l, c, w.among.1))

  module _ (x : Placed) (got : slice_get index at ≡ Some x) where
    here : Contains index x
    here = (at, slice_get_within index at x got, get_or_from_slice_get index at x x got)

    far : (y : Placed) → (w : Contains index y) → at ≤ w.0 → is_lt (placed_cmp y x) ≡ false
    far y w l =
        let a = sorted_far (λ (u v : Placed). is_lt (placed_cmp u v)) (ranks_by placed_total (λ (u : Placed). u)) index are.sorted at w.0 x l w.1 in
        let there = get_or_from_slice_get index w.0 y x (slice_get_read index (length index) w.0 y refl w.1 (sym w.2)) in
        subst (λ (u : Placed). is_lt (placed_cmp u x) ≡ false) there
        (subst (λ (v : Placed). is_lt (placed_cmp (get_or index w.0 x) v) ≡ false) (get_or_from_slice_get index at x x got) a)

    pub first_there : key_of x ≡ key → IsFirst keys key x.place
    first_there e = record {
      at = subst (λ (l : List ℕ). slice_get keys x.place ≡ Some l) e (are.sound x here);
      none_before = λ j l h.
          let w = are.complete j key h in
          let f = far w.one w.among (behind index key at p.0 w.one w.among w.has) in
          later w.one w.has f (omega (arith, w.stands, l));
    } where
      later : (y : Placed) → key_of y ≡ key → is_lt (placed_cmp y x) ≡ false → y.place < x.place → ⊥
      later y h f l =
          let tied : slice_cmp nat_cmp (key_of y) (key_of x) ≡ Equal = ap (λ (m : List ℕ). slice_cmp nat_cmp m (key_of x)) (h ∙ sym e) ∙ tied_once (key_of x) in
          let s = subst (λ (r : Ordering). is_lt (ordering_then r (nat_cmp y.place x.place)) ≡ false) tied f in
          let t = subst (λ (r : Ordering). is_lt r ≡ false) (sym (nat_cmp_is y.place x.place Less l)) s in
          cc t

    pub not_there : (key_of x ≡ key → ⊥) → (k : ℕ) → slice_get keys k ≡ Some key → ⊥
    not_there n k e =
        let w = are.complete k key e in
        let f = far w.one w.among (behind index key at p.0 w.one w.among w.has) in
        let g = not_lt (slice_cmp nat_cmp (key_of w.one) (key_of x)) (nat_cmp w.one.place x.place) f in
        let h = subst (λ (y : Placed). comes_before key y ≡ false) (get_or_from_slice_get index at x x got) (p.1 at x (omega arith) (slice_get_within index at x got)) in
        unlike key (key_of x) n (slice_cmp nat_cmp (key_of x) key) refl h (subst (λ (l : List ℕ). is_lt (slice_cmp nat_cmp l (key_of x)) ≡ false) w.has g)

-- one more key with its place
pub numbered_more : (keys more : List (List ℕ)) (all after : List Placed) (x : Placed) → AreNumbered keys all → after ≡ all ++ x ∷ [] → x.place ≡ length all
    → more ≡ keys ++ key_of x ∷ [] → AreNumbered more after
numbered_more keys more all after x old is number e = subst (AreNumbered more) (sym is) (record {
  keys_are = map-append key_of all (x ∷ []) ∙ (ap (λ (l : List (List ℕ)). l ++ key_of x ∷ []) old.keys_are ∙ sym e);
  placed = λ k y h. by k y (slice_get-push_cases all x k y h);
}) where
  by : (k : ℕ) (y : Placed) → (slice_get all k ≡ Some y) ⊎ ((k ≡ length all) × (y ≡ x)) → y.place ≡ k
  by k y (inl h) = old.placed k y h
  by k y (inr h) = ap (λ (z : Placed). z.place) h.1 ∙ (number ∙ sym h.0)
