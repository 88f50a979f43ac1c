-- The declared names in order.
use Rattle.std.proofs.Common.{◌≡◌, ◌<◌, ◌≤◌, ◌⊎◌, ℕ, List, [], ◌∷◌, Contains, ◌↔◌, refl, ap, subst, sym, ◌∙◌}
use Rattle.std.proofs.Common.{IsPermutation, length, slice_get, Some, map, arith, zero, suc, inl, inr, take}
use Rattle.std.specs.List.{AllByRecursion}
use Rattle.std.specs.declared.cmp.Ordering.{Ordering}
use Rattle.std.specs.declared.cmp.Ordering.TheVariants.{Less, Equal, Greater}
use Rattle.std.specs.List.Sorted.{IsSorted, IsStrictlySortedBy}
use Rattle.std.specs.List.Retain.{IsFiltered, DiffersFromLast}
use Rattle.std.specs.Ordering.{nat_cmp, eq_by_cmp, ordering_then, ordering_reverse}
use Rattle.std.specs.Cmp.{eq_by_cmp_equiv}
use Rattle.std.specs.Cmp.Lexicographic.{slice_cmp}
use Rattle.std.proofs.lemmas.Bool.{cases_lt}
use Rattle.std.proofs.lemmas.Option.{slice_get_within, slice_get_read, get_or_from_slice_get}
use Rattle.std.proofs.lemmas.Map.Keys.{Less-from_sorted}
use Rattle.std.proofs.lemmas.List.Filters.{dedup_is}
use Rattle.std.proofs.lemmas.List.Kept.{Contains-dedup, Contains-from_dedup, IsStrictlySortedBy-dedup}
use Rattle.std.proofs.lemmas.List.Sorted.{Contains-permutation, IsPermutation-sym}
use Rattle.std.proofs.lemmas.Map.Lookups.{exact_bytes, exact_unsigned}
use Rattle.std.proofs.lemmas.Map.Views.{tells_apart}
use Rattle.jn_reach.specs.Each.{Each, none, more}
use Rattle.jn_table.proofs.Places.{take_whole}
use Rattle.jn_base.specs.declared.tree.Name.{Name}
use Rattle.jn_base.specs.declared.tree.Text.{Text}
use Rattle.jn_base.specs.Paths.{Path}
use Rattle.jn_table.specs.Gather.{DeclaresIn}
use Rattle.jn_table.specs.Depths.{IsOrdered}
use Rattle.jn_table.specs.Order.{spelled_cmp, spelled_total, spelled_name, spelling, SpelledOf, order_cmp, IsOrderOf, entry_name}
use Rattle.jn_table.specs.declared.entry.Entry.{Entry}
use Rattle.jn_table.specs.declared.order.Spelled.{Spelled}

then_second : (r s : Ordering) → ordering_then r s ≡ Equal → s ≡ Equal
then_second Less s e = cc
then_second Equal s e = e
then_second Greater s e = cc

then_first : (r s : Ordering) → ordering_then r s ≡ Equal → r ≡ Equal
then_first Less s e = cc
then_first Equal s e = refl
then_first Greater s e = cc

-- what ties is the same
spelled_exact : (x y : Spelled) → spelled_cmp x y ≡ Equal → x ≡ y
spelled_exact x y e =
    let b = exact_bytes x.bytes y.bytes
    (then_first (slice_cmp nat_cmp x.bytes y.bytes) (nat_cmp x.number y.number) e) in
    let n = exact_unsigned x.number y.number
    (then_second (slice_cmp nat_cmp x.bytes y.bytes) (nat_cmp x.number y.number) e) in
    ap (λ (bs : List ℕ). record { bytes = bs; number = x.number }) b
    ∙ ap (λ (k : ℕ). record { bytes = y.bytes; number = k }) n

deduped_same : (xs ys zs : List Spelled) → IsPermutation xs ys
    → IsFiltered (DiffersFromLast (eq_by_cmp spelled_cmp)) [] ys zs
    → (n : Spelled) → Contains zs n ↔ Contains xs n
deduped_same xs ys zs p f n =
    let e = dedup_is (eq_by_cmp spelled_cmp) ys zs f in (
      λ h. Contains-permutation ys xs n (IsPermutation-sym xs ys p)
          (Contains-from_dedup (eq_by_cmp spelled_cmp) ys n (subst (λ (l : List Spelled). Contains l n) e h)),
      λ h. subst (λ (l : List Spelled). Contains l n) (sym e)
          (Contains-dedup (eq_by_cmp_equiv spelled_total) (tells_apart spelled_exact) ys n
          (Contains-permutation xs ys n p h)),
    )

deduped_sorted : (ys zs : List Spelled) → IsSorted spelled_cmp ys
    → IsFiltered (DiffersFromLast (eq_by_cmp spelled_cmp)) [] ys zs
    → IsStrictlySortedBy spelled_cmp zs
deduped_sorted ys zs s f =
    subst (IsStrictlySortedBy spelled_cmp) (sym (dedup_is (eq_by_cmp spelled_cmp) ys zs f))
    (IsStrictlySortedBy-dedup spelled_total (λ x y. refl) ys s)

-- each is the spelling of its name
abbrev AreSpelled : List Text → List Spelled → Type 0
AreSpelled texts xs = (s : Spelled) → Contains xs s → s ≡ spelling texts (spelled_name s)

first : {X : Type 0} (x : X) (xs : List X) → Contains (x ∷ xs) x
first x xs = (0, omega arith, refl)

later : {X : Type 0} (y : X) (xs : List X) (x : X) → Contains xs x → Contains (y ∷ xs) x
later y xs x (k, l, e) = (suc k, omega (arith, l), e)

less_named : (texts : List Text) (s : Spelled) (xs : List Spelled) → AreSpelled texts xs
    → s ≡ spelling texts (spelled_name s)
    → AllByRecursion (λ y. spelled_cmp s y ≡ Less) xs
    → AllByRecursion (λ n. order_cmp texts (spelled_name s) n ≡ Less) (map spelled_name xs)
less_named texts s [] are is all = tt
less_named texts s (x ∷ xs) are is (now, rest) = (
  subst (λ (y : Spelled). spelled_cmp (spelling texts (spelled_name s)) y ≡ Less) (are x (first x xs))
      (subst (λ (y : Spelled). spelled_cmp y x ≡ Less) is now),
  less_named texts s xs (λ y c. are y (later x xs y c)) is rest,
)

names_sorted : (texts : List Text) (xs : List Spelled) → AreSpelled texts xs → IsStrictlySortedBy spelled_cmp xs
    → IsStrictlySortedBy (order_cmp texts) (map spelled_name xs)
unfolding IsStrictlySortedBy
names_sorted texts [] are s = tt
names_sorted texts (x ∷ xs) are (now, rest) = (
  less_named texts x xs (λ y c. are y (later x xs y c)) (are x (first x xs)) now,
  names_sorted texts xs (λ y c. are y (later x xs y c)) rest,
)

in_map : (xs : List Spelled) (s : Spelled) (C : Name) → Contains xs s → spelled_name s ≡ C
    → Contains (map spelled_name xs) C
in_map [] s C c is = absurd (omega (arith, c.1))
in_map (y ∷ ys) s C (zero, l, e) is = (0, omega arith, ap spelled_name e ∙ is)
in_map (y ∷ ys) s C (suc k, l, e) is =
    let c = in_map ys s C (k, omega (arith, l), e) is in
    (suc c.0, omega (arith, c.1), c.2)

map_in : (xs : List Spelled) (C : Name) → Contains (map spelled_name xs) C
    → (s : Spelled) × Contains xs s × (spelled_name s ≡ C)
map_in [] C c = absurd (omega (arith, c.1))
map_in (y ∷ ys) C (zero, l, e) = (y, first y ys, e)
map_in (y ∷ ys) C (suc k, l, e) =
    let r = map_in ys C (k, omega (arith, l), e) in
    (r.0, later y ys r.0 r.1, r.2)

-- the names and their spellings
each_spelled : (texts : List Text) {ns : List Name} {xs : List Spelled}
    → Each (λ (n : Name) (s : Spelled). SpelledOf texts n s) ns xs
    → (s : Spelled) → Contains xs s → (n : Name) × Contains ns n × (s ≡ spelling texts n)
each_spelled texts none s c = absurd (omega (arith, c.1))
each_spelled texts (more {x = e} {y = t} {xs = es} {ys = xs} r rest) s (zero, l, h) = (e, first e es, sym h ∙ r)
each_spelled texts (more {x = e} {y = t} {xs = es} {ys = xs} r rest) s (suc k, l, h) =
    let f = each_spelled texts rest s (k, omega (arith, l), h) in
    (f.0, later e es f.0 f.1, f.2)

spelled_each : (texts : List Text) {ns : List Name} {xs : List Spelled}
    → Each (λ (n : Name) (s : Spelled). SpelledOf texts n s) ns xs
    → (n : Name) → Contains ns n → Contains xs (spelling texts n)
spelled_each texts none e c = absurd (omega (arith, c.1))
spelled_each texts (more {x = d} {y = t} {xs = es} {ys = xs} r rest) e (zero, l, h) =
    subst (λ (f : Name). Contains (t ∷ xs) (spelling texts f)) h (subst (Contains (t ∷ xs)) r (first t xs))
spelled_each texts (more {x = d} {y = t} {xs = es} {ys = xs} r rest) e (suc k, l, h) =
    later t xs (spelling texts e) (spelled_each texts rest e (k, omega (arith, l), h))

pub order_is : (texts : List Text) (names : List Name) (xs ys zs : List Spelled) (order : List Name)
    → Each (λ (n : Name) (s : Spelled). SpelledOf texts n s) names xs → IsPermutation xs ys → IsSorted spelled_cmp ys
    → IsFiltered (DiffersFromLast (eq_by_cmp spelled_cmp)) [] ys zs → order ≡ map spelled_name zs
    → IsOrderOf texts names order
order_is texts names xs ys zs order each p s f is = record {
  exact = λ C. (to C, from C);
  in_order =
      subst (IsStrictlySortedBy (order_cmp texts)) (sym is) (names_sorted texts zs are (deduped_sorted ys zs s f));
} where
  are : AreSpelled texts zs
  are t c =
      let e = each_spelled texts each t ((deduped_same xs ys zs p f t).0 c) in
      e.2 ∙ ap (λ (n : Name). spelling texts n) (sym (ap spelled_name e.2))

  to : (C : Name) → Contains order C → Contains names C
  to C c =
      let m = map_in zs C (subst (λ (ns : List Name). Contains ns C) is c) in
      let e = each_spelled texts each m.0 ((deduped_same xs ys zs p f m.0).0 m.1) in
      subst (Contains names) (sym (ap spelled_name e.2) ∙ m.2) e.1

  from : (C : Name) → Contains names C → Contains order C
  from C c =
      let s = spelled_each texts each C c in
      subst (λ (ns : List Name). Contains ns C) (sym is)
      (in_map zs (spelling texts C) C ((deduped_same xs ys zs p f (spelling texts C)).1 s) refl)

-- none comes before itself, so that none is there twice
no_less : (texts : List Text) (C : Name) → order_cmp texts C C ≡ Less → ⊥
no_less texts C e =
    let s = spelling texts C in
    let c : Less ≡ Greater = sym e ∙ (spelled_total.antisymm s s ∙ ap ordering_reverse e) in
    cc c

pub each_all : {A B : Type 0} (R : A → B → Type 0) (xs : List A) (ys : List B) (i : ℕ) → length xs ≤ i
    → Each R (take i xs) ys → Each R xs ys
each_all R xs ys i past e = subst (λ zs. Each R zs ys) (take_whole i xs past) e

-- the names of entries
pub name_in : (es : List Entry) (e : Entry) → Contains es e → Contains (map entry_name es) e.name
name_in [] e c = absurd (omega (arith, c.1))
name_in (d ∷ es) e (zero, l, h) = (0, omega arith, ap (λ (f : Entry). f.name) h)
name_in (d ∷ es) e (suc k, l, h) =
    let c = name_in es e (k, omega (arith, l), h) in
    (suc c.0, omega (arith, c.1), c.2)

pub in_names : (es : List Entry) (C : Name) → Contains (map entry_name es) C
    → (e : Entry) × Contains es e × (e.name ≡ C)
in_names [] C c = absurd (omega (arith, c.1))
in_names (d ∷ es) C (zero, l, h) = (d, (0, omega arith, refl), h)
in_names (d ∷ es) C (suc k, l, h) =
    let c = in_names es C (k, omega (arith, l), h) in
    (c.0, (suc c.1.0, omega (arith, c.1.1), c.1.2), c.2)

pub sorted_apart : (texts : List Text) (order : List Name) → IsStrictlySortedBy (order_cmp texts) order
    → (i j : ℕ) (C D : Name) → i < j → slice_get order i ≡ Some C → slice_get order j ≡ Some D
    → order_cmp texts C D ≡ Less
sorted_apart texts order s i j C D l a b =
    let less = Less-from_sorted (order_cmp texts) order i j C s l (slice_get_within order j D b) in
    rw (get_or_from_slice_get order i C C a, get_or_from_slice_get order j D C b) at less

pub ordered : (texts : List Text) (es : List Entry) (order : List Name) → IsOrderOf texts (map entry_name es) order
    → IsOrdered es order
ordered texts es order o = record { distinct = distinct; declared = declared } where
  apart : (i j : ℕ) (C : Name) → slice_get order i ≡ Some C → slice_get order j ≡ Some C → i < j → ⊥
  apart i j C a b l = no_less texts C (sorted_apart texts order o.in_order i j C C l a b)

  distinct : (i j : ℕ) (C : Name) → slice_get order i ≡ Some C → slice_get order j ≡ Some C → i ≡ j
  distinct i j C a b = elim (cases_lt i j) [
    | inl below ↦ absurd (apart i j C a b below)
    | inr past ↦ elim (cases_lt j i) [
      | inl above ↦ absurd (apart j i C b a above)
      | inr same ↦ omega (arith, past, same)
    ]
  ]

  declared : (P : Path) (C : Name) → DeclaresIn es P C → ((j : ℕ) → slice_get order j ≡ Some C → ⊥) → ⊥
  declared P C a missing =
      let n = subst (Contains (map entry_name es)) a.4.0 (name_in es a.1 (a.0, a.2, a.3)) in
      let c = (o.exact C).1 n in
      missing c.0 (slice_get_read order (length order) c.0 C refl c.1 (sym c.2))

names_differ : (a b : Name) → (a ≡ b) ⊎ (a ≡ b → ⊥)
names_differ a b = elim (cases_lt a.0 b.0) [
  | inl below ↦ inr (λ e. let n : a.0 ≡ b.0 = ap (λ (x : Name). x.0) e in omega (arith, below, n))
  | inr past ↦ elim (cases_lt b.0 a.0) [
    | inl above ↦ inr (λ e. let n : a.0 ≡ b.0 = ap (λ (x : Name). x.0) e in omega (arith, above, n))
    | inr same ↦ let n : a.0 ≡ b.0 = omega (arith, past, same) in inl (ap (λ (k : ℕ). record { 0 = k }) n)
  ]
]

at_or_nowhere : (order : List Name) (C : Name)
    → ((j : ℕ) × (slice_get order j ≡ Some C)) ⊎ ((j : ℕ) → slice_get order j ≡ Some C → ⊥)
at_or_nowhere [] C = inr (λ j at. cc at)
at_or_nowhere (D ∷ ns) C = elim (names_differ D C) [
  | inl same ↦ inl (0, ap Some same)
  | inr other ↦ elim (at_or_nowhere ns C) [
    | inl there ↦ inl (suc there.0, there.1)
    | inr nowhere ↦ inr (λ j at. not_here other nowhere j at)
  ]
] where
  not_here : (D ≡ C → ⊥) → ((j : ℕ) → slice_get ns j ≡ Some C → ⊥) → (j : ℕ) → slice_get (D ∷ ns) j ≡ Some C → ⊥
  not_here other nowhere zero at = other (let e : D ≡ C = cc at in e)
  not_here other nowhere (suc j) at = nowhere j at

pub declared_at : (es : List Entry) (order : List Name) → IsOrdered es order → (P : Path) (C : Name)
    → DeclaresIn es P C → (j : ℕ) × (slice_get order j ≡ Some C)
declared_at es order o P C a = elim (at_or_nowhere order C) [
  | inl there ↦ there
  | inr nowhere ↦ absurd (o.declared P C a nowhere)
]
