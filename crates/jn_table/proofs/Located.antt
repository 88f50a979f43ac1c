-- Places of the known paths, searched by halves.
use Rattle.std.proofs.Common.{rules, ◌≡◌, ◌<◌, ◌+◌, ◌⊎◌, ◌++◌, length-append, ℕ, List, [], ◌∷◌, Contains, IsPermutation, Some, arith, ap, drop, length, refl, slice_get, subst, suc, sym, zero, ◌∙◌, inl, inr}
use Rattle.std.specs.declared.cmp.Ordering.TheVariants.{Less, Equal, Greater}
use Rattle.std.specs.Ordering.{nat_cmp, ordering_index, ordering_reverse}
use Rattle.std.specs.Cmp.Lexicographic.{slice_cmp, nat_list_cmp_total}
use Rattle.std.specs.List.Sorted.{IsNonDecreasingBy, IsPartitionPoint, IsSorted}
use Rattle.std.proofs.lemmas.List.Sorted.{Contains-permutation, IsPermutation-sym, searchable_from_sorted}
use Rattle.std.proofs.lemmas.Map.Lookups.{exact_bytes}
use Rattle.std.proofs.lemmas.Bool.{cases_lt}
use Rattle.std.proofs.lemmas.Option.{slice_get_within, slice_get_read, get_or_from_slice_get}
use Rattle.jn_reach.proofs.Searches.{same_some}
use Rattle.jn_reach.proofs.Rows.{slice_get-push_cases}
use Rattle.jn_base.specs.declared.tree.Name.{Name}
use Rattle.jn_base.specs.declared.path.Path.{Path as ShownPath}
use Rattle.jn_table.specs.Places.{located_cmp, located_path, name_numbers, AreLocated, ArePlaces}
use Rattle.jn_table.specs.declared.finding.Located.{Located}

-- where one of the two ends
pub first_ended : (a b : List Name) (i : ℕ) → length a ≡ i → i < length b
    → slice_cmp nat_cmp (name_numbers (drop i a)) (name_numbers (drop i b)) ≡ Less
first_ended a [] i l m = absurd (omega (arith, m))
first_ended [] (y ∷ ys) zero l m = refl
first_ended [] (y ∷ ys) (suc i) l m = absurd (omega (arith, l))
first_ended (x ∷ xs) (y ∷ ys) zero l m = absurd (omega (arith, l))
first_ended (x ∷ xs) (y ∷ ys) (suc i) l m = first_ended xs ys i (omega (arith, l)) (omega (arith, m))

pub second_ended : (a b : List Name) (i : ℕ) → i < length a → length b ≡ i
    → slice_cmp nat_cmp (name_numbers (drop i a)) (name_numbers (drop i b)) ≡ Greater
second_ended [] b i l m = absurd (omega (arith, l))
second_ended (x ∷ xs) [] zero l m = refl
second_ended (x ∷ xs) [] (suc i) l m = absurd (omega (arith, m))
second_ended (x ∷ xs) (y ∷ ys) zero l m = absurd (omega (arith, m))
second_ended (x ∷ xs) (y ∷ ys) (suc i) l m = second_ended xs ys i (omega (arith, l)) (omega (arith, m))

abbrev numbered_first : ℕ → List Name → List Name
numbered_first n xs = record { 0 = n } ∷ xs

-- names are told by their numbers
pub names_exact : (a b : List Name) → name_numbers a ≡ name_numbers b → a ≡ b
names_exact [] [] e = refl
names_exact [] (y ∷ ys) e = cc
names_exact (x ∷ xs) [] e = cc
names_exact (x ∷ xs) (y ∷ ys) e =
    let h : x.0 ≡ y.0 = cc in
    let t : name_numbers xs ≡ name_numbers ys = cc in
    ap (λ (n : ℕ). numbered_first n xs) h ∙ ap (λ (zs : List Name). y ∷ zs) (names_exact xs ys t)

-- no list is before or behind itself
not_less : (xs : List ℕ) → slice_cmp nat_cmp xs xs ≡ Less → ⊥
not_less xs e =
    let c : Less ≡ Greater = sym e ∙ (nat_list_cmp_total.antisymm xs xs ∙ ap ordering_reverse e) in
    cc c

not_greater : (xs : List ℕ) → slice_cmp nat_cmp xs xs ≡ Greater → ⊥
not_greater xs e =
    let c : Greater ≡ Less = sym e ∙ (nat_list_cmp_total.antisymm xs xs ∙ ap ordering_reverse e) in
    cc c

there : {X : Type 0} (xs : List X) (k : ℕ) → k < length xs → (x : X) × (slice_get xs k ≡ Some x)
there [] k l = absurd (omega (arith, l))
there (x ∷ xs) zero l = (x, refl)
there (x ∷ xs) (suc k) l = there xs k (omega (arith, l))

pub are_places : (known : List ShownPath) (xs ys : List Located) → AreLocated known (length known) xs
    → IsPermutation xs ys → IsSorted located_cmp ys → ArePlaces known ys
are_places known xs ys all p s = record { sound = sound; complete = complete; sorted = s } where
  sound : (l : Located) → Contains ys l → slice_get known l.id.0 ≡ Some (located_path l)
  sound l c =
      let d = Contains-permutation ys xs l (IsPermutation-sym xs ys p) c in
      let e = all.each d.0 l (slice_get_read xs (length xs) d.0 l refl d.1 (sym d.2)) in
      subst (λ (k : ℕ). slice_get known k ≡ Some (located_path l)) (sym e.0) e.1

  complete : (k : ℕ) (q : ShownPath) → slice_get known k ≡ Some q
      → ((l : Located) → Contains ys l → located_path l ≡ q → ⊥) → ⊥
  complete k q at none =
      let t = there xs k (omega (arith, all.long, slice_get_within known k q at)) in
      let e = all.each k t.0 t.1 in
      none t.0
      (Contains-permutation xs ys t.0 p
      (k, omega (arith, all.long, slice_get_within known k q at), get_or_from_slice_get xs k t.0 t.0 t.1))
      (same_some (slice_get known k) (located_path t.0) q e.1 at)

pub no_places : (known : List ShownPath) (places : List Located) → known ≡ [] → places ≡ [] → ArePlaces known places
no_places known places a b =
    subst (λ (ks : List ShownPath). ArePlaces ks places) (sym a)
    (subst (ArePlaces []) (sym b) (record {
      sound = λ l c. absurd (omega (arith, c.1));
      complete = λ k q at. absurd (omega (arith, slice_get_within [] k q at));
      sorted = search rules;
    }))

pub found : (known : List ShownPath) (places : List Located) (q : ShownPath) (at : ℕ) (l : Located)
    → ArePlaces known places → slice_get places at ≡ Some l
    → slice_cmp nat_cmp (name_numbers l.names) (name_numbers q.names) ≡ Equal → slice_get known l.id.0 ≡ Some q
found known places q at l are got same =
    let e = names_exact l.names q.names (exact_bytes (name_numbers l.names) (name_numbers q.names) same) in
    subst (λ (ns : List Name). slice_get known l.id.0 ≡ Some (record { names = ns })) e
    (are.sound l (at, slice_get_within places at l got, get_or_from_slice_get places at l l got))

pub missing : (known : List ShownPath) (places : List Located) (q : ShownPath) (at : ℕ)
    → ArePlaces known places
    → (IsNonDecreasingBy (λ (l : Located). ordering_index (slice_cmp nat_cmp (name_numbers l.names) (name_numbers q.names))) places
    → IsPartitionPoint (λ (l : Located). slice_cmp nat_cmp (name_numbers l.names) (name_numbers q.names) ≡ Less)
    (λ (l : Located). slice_cmp nat_cmp (name_numbers l.names) (name_numbers q.names) ≡ Greater) places at)
    → (k : ℕ) → slice_get known k ≡ Some q → ⊥
missing known places q at are parted k is =
    let r = searchable_from_sorted nat_list_cmp_total (λ (l : Located). name_numbers l.names) places
    (name_numbers q.names) are.sorted in
    let p = parted r in
    are.complete k q is (λ l w e.
    let same : l.names ≡ q.names = ap (λ (s : ShownPath). s.names) e in
    elim (cases_lt w.0 at) [
      | inl below ↦ not_less (name_numbers q.names)
          (subst (λ (ns : List Name). slice_cmp nat_cmp (name_numbers ns) (name_numbers q.names) ≡ Less) same
          (subst (λ (x : Located). slice_cmp nat_cmp (name_numbers x.names) (name_numbers q.names) ≡ Less) w.2
          (p.0 w.0 l (omega arith) below)))
      | inr above ↦ not_greater (name_numbers q.names)
          (subst (λ (ns : List Name). slice_cmp nat_cmp (name_numbers ns) (name_numbers q.names) ≡ Greater) same
          (subst (λ (x : Located). slice_cmp nat_cmp (name_numbers x.names) (name_numbers q.names) ≡ Greater) w.2
          (p.1 w.0 l above w.1)))
    ])

-- one more path with its number
pub located_more : (known : List ShownPath) (n : ℕ) (all after : List Located) (l : Located)
    → AreLocated known n all → after ≡ all ++ l ∷ [] → l.id.0 ≡ n → slice_get known n ≡ Some (located_path l)
    → AreLocated known (n + 1) after
located_more known n all after l old is number at = subst (AreLocated known (n + 1)) (sym is) (record {
  long = omega (arith, old.long, length-append all (l ∷ []));
  each = λ k x h. by k x (slice_get-push_cases all l k x h);
}) where
  by : (k : ℕ) (x : Located) → (slice_get all k ≡ Some x) ⊎ ((k ≡ length all) × (x ≡ l))
      → (x.id.0 ≡ k) × (slice_get known k ≡ Some (located_path x))
  by k x (inl h) = old.each k x h
  by k x (inr e) =
      let here : k ≡ n = omega (arith, e.0, old.long) in
      let it : x ≡ l = e.1 in
      subst (λ (y : Located). (y.id.0 ≡ k) × (slice_get known k ≡ Some (located_path y))) (sym it)
      (subst (λ (j : ℕ). (l.id.0 ≡ j) × (slice_get known j ≡ Some (located_path l))) (sym here) (number, at))
