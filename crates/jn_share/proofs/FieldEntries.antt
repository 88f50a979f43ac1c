-- The declarations of the fields of each class, found among the field types.
use Rattle.std.proofs.Common.{◌≡◌, ◌<◌, ◌≤◌, ◌+◌, ◌↔◌, ◌⊎◌, inl, inr, ℕ, zero, suc, List, [], ◌∷◌, ◌++◌, length, Contains, Some, None, slice_get, get_or, set, max, refl, sym, ap, ◌∙◌, subst, arith}
use Rattle.std.specs.declared.vec.Vec.{Vec}
use Rattle.std.specs.declared.alloc.Global.{Global}
use Rattle.std.proofs.lemmas.Bool.{cases_lt, cases_eq}
use Rattle.std.proofs.lemmas.List.Elements.{Contains-append_left, Contains-append_right, Contains-append_cases, All-push}
use Rattle.std.proofs.lemmas.Option.{slice_get_read, slice_get_within, slice_get-get_or}
use Rattle.jn_reach.specs.Graph.{Graph, HasEdge}
use Rattle.jn_reach.specs.Pairs.{IsPair, AreBelow, IsGraphOf}
use Rattle.jn_reach.proofs.Edges.{slice_get-set_same, slice_get-set_other}
use Rattle.jn_reach.proofs.Searches.{same_some}
use Rattle.jn_base.specs.declared.tree.Name.{Name}
use Rattle.jn_base.proofs.NameTests.{in_cons, in_none, first}
use Rattle.jn_table.specs.declared.class.ClassId.{ClassId}
use Rattle.jn_table.specs.declared.field_types.FieldTy.{FieldTy}
use Rattle.jn_share.specs.Declaring.{StandsAtClass, AreOwn, OwnAmong, Wide, Noted}

only_one : {X : Type 0} (x y : X) → Contains (x ∷ []) y → x ≡ y
only_one x y c = by_case (in_cons x [] y c) where
  by_case : (x ≡ y) ⊎ Contains [] y → x ≡ y
  by_case (inl e) = e
  by_case (inr n) = absurd (in_none y n)

item_at : (types : List FieldTy) (i : ℕ) (x : FieldTy) → i < length types → x ≡ get_or types i x → slice_get types i ≡ Some x
item_at types i x l e = slice_get_read types (length types) i x refl l e

-- ---- how many names

abbrev pub WideTo : List FieldTy → ℕ → ℕ → Type 0
WideTo types n m = (k : ℕ) (y : FieldTy) → k < m → slice_get types k ≡ Some y → y.field.0 < n

pub wide_more : (types : List FieldTy) (i n : ℕ) (x : FieldTy) → i < length types → x ≡ get_or types i x → WideTo types n i → WideTo types (max n (x.field.0 + 1)) (i + 1)
wide_more types i n x l e all k y m at = by_place (cases_lt k i) where
  by_place : (k < i) ⊎ (i ≤ k) → y.field.0 < max n (x.field.0 + 1)
  by_place (inl b) = let h = all k y b at in omega arith
  by_place (inr b) =
      let q : k ≡ i = omega arith in
      let same : y ≡ x = same_some (slice_get types k) y x at (ap (slice_get types) q ∙ item_at types i x l e) in
      let n' : y.field.0 ≡ x.field.0 = ap (λ (z : FieldTy). z.field.0) same in
      omega arith

pub wide_all : (types : List FieldTy) (n i : ℕ) → length types ≤ i → WideTo types n i → Wide types n
wide_all types n i past all k y at = let w = slice_get_within types k y at in all k y (omega arith) at

-- ---- each entry behind its class

pub record PairsTo (types : List FieldTy) (count m : ℕ) (pairs : List (ℕ × ℕ)) : Type 0 where
  pub below : AreBelow count pairs
  pub sound : (a i : ℕ) → IsPair pairs a i → StandsAtClass types a i
  pub complete : (a i : ℕ) → i < m → a < count → StandsAtClass types a i → IsPair pairs a i

pub pairs_start : (types : List FieldTy) (count : ℕ) (pairs : List (ℕ × ℕ)) → pairs ≡ [] → PairsTo types count 0 pairs
pairs_start types count pairs e = subst (PairsTo types count 0) (sym e) (record {
  below = λ i d l. absurd (omega arith);
  sound = λ a i c. absurd (in_none {X = ℕ × ℕ} (a, i) c);
  complete = λ a i l b s. absurd (omega arith);
})

pub pairs_more : (types : List FieldTy) (count i : ℕ) (x : FieldTy) (pairs after : List (ℕ × ℕ)) → i < length types → i < count → x ≡ get_or types i x → x.class.0 < count
    → after ≡ pairs ++ (x.class.0, i) ∷ [] → PairsTo types count i pairs → PairsTo types count (i + 1) after
pairs_more types count i x pairs after l ic e c q w = subst (PairsTo types count (i + 1)) (sym q) (record { below = below; sound = sound; complete = complete }) where
  here : StandsAtClass types x.class.0 i
  here = (x, item_at types i x l e, refl)

  pair : ℕ × ℕ
  pair = (x.class.0, i)

  below : AreBelow count (pairs ++ (x.class.0, i) ∷ [])
  below = All-push (λ (y : ℕ × ℕ). (y.0 < count) × (y.1 < count)) pairs (x.class.0, i) w.below (c, ic)

  sound : (a k : ℕ) → IsPair (pairs ++ (x.class.0, i) ∷ []) a k → StandsAtClass types a k
  sound a k h = by_part (Contains-append_cases {X = ℕ × ℕ} pairs ((x.class.0, i) ∷ []) (a, k) h) where
    by_part : Contains {X = ℕ × ℕ} pairs (a, k) ⊎ Contains {X = ℕ × ℕ} ((x.class.0, i) ∷ []) (a, k) → StandsAtClass types a k
    by_part (inl s) = w.sound a k s
    by_part (inr s) =
        let same = only_one {X = ℕ × ℕ} (x.class.0, i) (a, k) s in
        subst (λ (y : ℕ × ℕ). StandsAtClass types y.0 y.1) same here

  complete : (a k : ℕ) → k < i + 1 → a < count → StandsAtClass types a k → IsPair (pairs ++ (x.class.0, i) ∷ []) a k
  complete a k m b s = by_place (cases_lt k i) where
    by_place : (k < i) ⊎ (i ≤ k) → IsPair (pairs ++ (x.class.0, i) ∷ []) a k
    by_place (inl z) = Contains-append_left {X = ℕ × ℕ} pairs ((x.class.0, i) ∷ []) (a, k) (w.complete a k z b s)
    by_place (inr z) =
        let same : i ≡ k = omega arith in
        let one : x ≡ s.0 = same_some (slice_get types k) x s.0 (ap (slice_get types) (sym same) ∙ item_at types i x l e) s.1 in
        let class : x.class.0 ≡ a = ap (λ (y : FieldTy). y.class.0) one ∙ s.2 in
        Contains-append_right {X = ℕ × ℕ} pairs ((x.class.0, i) ∷ []) (a, k)
        (subst (λ (n : ℕ). Contains {X = ℕ × ℕ} ((x.class.0, i) ∷ []) (a, n)) same
        (subst (λ (n : ℕ). Contains {X = ℕ × ℕ} ((x.class.0, i) ∷ []) (n, i)) class (first {X = ℕ × ℕ} (x.class.0, i) [])))

pub pairs_skip : (types : List FieldTy) (count i : ℕ) (x : FieldTy) (pairs : List (ℕ × ℕ)) → i < length types → x ≡ get_or types i x → count ≤ x.class.0
    → PairsTo types count i pairs → PairsTo types count (i + 1) pairs
pairs_skip types count i x pairs l e c w = record { below = w.below; sound = w.sound; complete = complete } where
  complete : (a k : ℕ) → k < i + 1 → a < count → StandsAtClass types a k → IsPair pairs a k
  complete a k m b s = by_place (cases_lt k i) where
    by_place : (k < i) ⊎ (i ≤ k) → IsPair pairs a k
    by_place (inl z) = w.complete a k z b s
    by_place (inr z) =
        let same : i ≡ k = omega arith in
        let one : x ≡ s.0 = same_some (slice_get types k) x s.0 (ap (slice_get types) (sym same) ∙ item_at types i x l e) s.1 in
        let class : x.class.0 ≡ a = ap (λ (y : FieldTy). y.class.0) one ∙ s.2 in
        absurd (omega arith)

pub pairs_all : (types : List FieldTy) (count i : ℕ) (pairs : List (ℕ × ℕ)) → length types ≤ i → PairsTo types count i pairs → (a k : ℕ) → a < count → StandsAtClass types a k
    → IsPair pairs a k
pairs_all types count i pairs past w a k b s =
    let m = slice_get_within types k s.0 s.1 in
    w.complete a k (omega arith) b s

pub own_are : (types : List FieldTy) (count : ℕ) (pairs : List (ℕ × ℕ)) (own : Graph) → IsGraphOf count (IsPair pairs) own
    → ((a i : ℕ) → IsPair pairs a i → StandsAtClass types a i) → ((a i : ℕ) → a < count → StandsAtClass types a i → IsPair pairs a i) → AreOwn types count own
own_are types count pairs own g sound complete = record {
  sound = λ a i h. sound a i ((g.edges a i).0 h);
  complete = λ a i b s. (g.edges a i).1 (complete a i b s);
}

-- ---- the entries of some classes

abbrev pub AmongTo : Graph → List ClassId → ℕ → ℕ → Type 0
AmongTo own sups m i = (k : ℕ) × (s : ClassId) × (k < m) × (slice_get sups k ≡ Some s) × HasEdge own s.0 i

abbrev pub EntriesTo : Graph → List ClassId → ℕ → List ℕ → Type 0
EntriesTo own sups m all = (i : ℕ) → Contains all i ↔ AmongTo own sups m i

pub entries_start : (own : Graph) (sups : List ClassId) (all : List ℕ) → all ≡ [] → EntriesTo own sups 0 all
entries_start own sups all e i = (λ c. absurd (in_none i (subst (λ (xs : List ℕ). Contains xs i) e c)), λ h. absurd (let l = h.2 in omega arith))

class_here : (sups : List ClassId) (k : ℕ) (s : ClassId) → k < length sups → s ≡ get_or sups k s → slice_get sups k ≡ Some s
class_here sups k s l e = slice_get_read sups (length sups) k s refl l e

pub entries_more : (own : Graph) (sups : List ClassId) (m : ℕ) (s : ClassId) (row : Vec ℕ Global) (all after : List ℕ) → m < length sups → s ≡ get_or sups m s
    → slice_get own s.0 ≡ Some row → after ≡ all ++ row.items → EntriesTo own sups m all → EntriesTo own sups (m + 1) after
entries_more own sups m s row all after l e at q w i = (to, from) where
  to : Contains after i → AmongTo own sups (m + 1) i
  to c = by_part (Contains-append_cases all row.items i (subst (λ (xs : List ℕ). Contains xs i) q c)) where
    by_part : Contains all i ⊎ Contains row.items i → AmongTo own sups (m + 1) i
    by_part (inl h) = let r = (w i).0 h in let b = r.2 in (r.0, r.1, omega arith, r.3, r.4)
    by_part (inr h) = (m, s, omega arith, class_here sups m s l e, record { row = row; at = at; in_row = h })

  from : AmongTo own sups (m + 1) i → Contains after i
  from r = subst (λ (xs : List ℕ). Contains xs i) (sym q) (by_place (cases_lt r.0 m)) where
    by_place : (r.0 < m) ⊎ (m ≤ r.0) → Contains (all ++ row.items) i
    by_place (inl b) = Contains-append_left all row.items i ((w i).1 (r.0, r.1, b, r.3, r.4))
    by_place (inr b) =
        let n = r.2 in
        let k : r.0 ≡ m = omega arith in
        let same : r.1 ≡ s = same_some (slice_get sups r.0) r.1 s r.3 (ap (slice_get sups) k ∙ class_here sups m s l e) in
        let one : r.4.row ≡ row = same_some (slice_get own s.0) r.4.row row (subst (λ (c : ClassId). slice_get own c.0 ≡ Some r.4.row) same r.4.at) at in
        Contains-append_right all row.items i (subst (λ (v : Vec ℕ Global). Contains v.items i) one r.4.in_row)

pub entries_skip : (own : Graph) (sups : List ClassId) (m : ℕ) (s : ClassId) (all : List ℕ) → m < length sups → s ≡ get_or sups m s
    → None ≡ slice_get own s.0 → EntriesTo own sups m all → EntriesTo own sups (m + 1) all
entries_skip own sups m s all l e at w i = (to, from) where
  to : Contains all i → AmongTo own sups (m + 1) i
  to h = let r = (w i).0 h in let b = r.2 in (r.0, r.1, omega arith, r.3, r.4)

  nothing : {v : Vec ℕ Global} → None ≡ Some v → ⊥
  nothing q = cc

  from : AmongTo own sups (m + 1) i → Contains all i
  from r = by_place (cases_lt r.0 m) where
    by_place : (r.0 < m) ⊎ (m ≤ r.0) → Contains all i
    by_place (inl b) = (w i).1 (r.0, r.1, b, r.3, r.4)
    by_place (inr b) =
        let n = r.2 in
        let k : r.0 ≡ m = omega arith in
        let same : r.1 ≡ s = same_some (slice_get sups r.0) r.1 s r.3 (ap (slice_get sups) k ∙ class_here sups m s l e) in
        absurd (nothing (at ∙ subst (λ (c : ClassId). slice_get own c.0 ≡ Some r.4.row) same r.4.at))

pub entries_all : (own : Graph) (sups : List ClassId) (m : ℕ) (all : List ℕ) → length sups ≤ m → EntriesTo own sups m all → (i : ℕ) → Contains all i ↔ OwnAmong own sups i
entries_all own sups m all past w i = (to, from) where
  to : Contains all i → OwnAmong own sups i
  to c =
      let r = (w i).0 c in
      (r.0, r.1, slice_get_within sups r.0 r.1 r.3, same_some (slice_get sups r.0) (get_or sups r.0 r.1) r.1 (slice_get-get_or sups r.0 r.1 (slice_get_within sups r.0 r.1 r.3)) r.3, r.4)

  from : OwnAmong own sups i → Contains all i
  from h =
      let b = h.2 in
      (w i).1 (h.0, h.1, omega arith, slice_get_read sups (length sups) h.0 h.1 refl h.2 (sym h.3), h.4)

-- ---- under the names of fields

pub noted_start : (types : List FieldTy) (was last : List ℕ) → was ≡ [] → Noted types was last
noted_start types was last e i x c at = absurd (in_none i (subst (λ (xs : List ℕ). Contains xs i) e c))

same_name : (a b : Name) → a.0 ≡ b.0 → a ≡ b
same_name a b e = ap (λ (n : ℕ). record { 0 = n }) e

pub noted_one : (types : List FieldTy) (was last : List ℕ) (i : ℕ) (x : FieldTy) → slice_get types i ≡ Some x → x.field.0 < length last → Noted types was last
    → Noted types (was ++ i ∷ []) (set last x.field.0 i)
noted_one types was last i x at w all k y c here = by_name (cases_eq y.field.0 x.field.0) where
  Found : Type 0
  Found = (j : ℕ) × (z : FieldTy) × (slice_get (set last x.field.0 i) y.field.0 ≡ Some j) × Contains (was ++ i ∷ []) j × (slice_get types j ≡ Some z) × (z.field ≡ y.field)

  by_name : (y.field.0 ≡ x.field.0) ⊎ (y.field.0 ≡ x.field.0 → ⊥)
      → (j : ℕ) × (z : FieldTy) × (slice_get (set last x.field.0 i) y.field.0 ≡ Some j) × Contains (was ++ i ∷ []) j × (slice_get types j ≡ Some z) × (z.field ≡ y.field)
  by_name (inl e) = (
    i,
    x,
    ap (slice_get (set last x.field.0 i)) e ∙ slice_get-set_same last x.field.0 i w,
    Contains-append_right was (i ∷ []) i (first i []),
    at,
    same_name x.field y.field (sym e),
  )
  by_name (inr n) = by_part (Contains-append_cases was (i ∷ []) k c) where
    by_part : Contains was k ⊎ Contains (i ∷ []) k
        → (j : ℕ) × (z : FieldTy) × (slice_get (set last x.field.0 i) y.field.0 ≡ Some j) × Contains (was ++ i ∷ []) j × (slice_get types j ≡ Some z) × (z.field ≡ y.field)
    by_part (inl h) =
        let r = all k y h here in
        (r.0, r.1, slice_get-set_other last x.field.0 y.field.0 i n ∙ r.2, Contains-append_left was (i ∷ []) r.0 r.3, r.4, r.5)
    by_part (inr h) =
        let same : x ≡ y = same_some (slice_get types k) x y (ap (slice_get types) (sym (only_one i k h)) ∙ at) here in
        absurd (n (ap (λ (z : FieldTy). z.field.0) (sym same)))

pub noted_none : (types : List FieldTy) (was last : List ℕ) (i : ℕ) → None ≡ slice_get types i → Noted types was last → Noted types (was ++ i ∷ []) last
noted_none types was last i e all k y c here = by_part (Contains-append_cases was (i ∷ []) k c) where
  nothing : {v : FieldTy} → None ≡ Some v → ⊥
  nothing q = cc

  by_part : Contains was k ⊎ Contains (i ∷ []) k
      → (j : ℕ) × (z : FieldTy) × (slice_get last y.field.0 ≡ Some j) × Contains (was ++ i ∷ []) j × (slice_get types j ≡ Some z) × (z.field ≡ y.field)
  by_part (inl h) = let r = all k y h here in (r.0, r.1, r.2, Contains-append_left was (i ∷ []) r.0 r.3, r.4, r.5)
  by_part (inr h) = absurd (nothing (e ∙ (ap (slice_get types) (only_one i k h) ∙ here)))

-- what stands at a place doesn't depend on what would stand past the end
pub any_default : {A : Type 0} (xs : List A) (i : ℕ) (a b : A) → i < length xs → get_or xs i a ≡ get_or xs i b
any_default [] i a b l = absurd (omega arith)
any_default (x ∷ xs) zero a b l = refl
any_default (x ∷ xs) (suc i) a b l = any_default xs i a b (omega (arith, l))
