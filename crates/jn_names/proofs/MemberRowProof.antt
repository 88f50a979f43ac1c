-- The rows of members, number by number.
use Rattle.std.proofs.Common.{◌≡◌, ◌<◌, ◌≤◌, ◌+◌, ℕ, zero, suc, List, [], ◌∷◌, length, get_or, slice_get, Some, None}
use Rattle.std.proofs.Common.{Option, refl, sym, ap, subst, ◌⊎◌, inl, inr, Contains, ◌↔◌, IsTrue, Bool, true, false}
use Rattle.std.proofs.Common.{not, arith}
use Rattle.std.proofs.lemmas.Bool.{cases_lt, cases_eq}
use Rattle.std.proofs.lemmas.List.{get_or_default}
use Rattle.std.proofs.lemmas.Option.{slice_get_read, slice_get_within}
use Rattle.jn_reach.proofs.Searches.{NoneBefore, none_more, none_all, same_some}
use Rattle.jn_table.specs.declared.class.ClassId.{ClassId}
use Rattle.jn_table.proofs.Shown.{same_id}
use Rattle.jn_names.specs.declared.member_row.MemberRow.{MemberRow}
use Rattle.jn_names.specs.declared.members.Least.TheVariants as least
use Rattle.jn_names.specs.MemberRows.{SupAtRow, HasLowerRow, PassedRow, PassedTo, FieldlessRow, FieldlessTo, IsOneRow}
use Rattle.jn_names.specs.MemberRows.{AboveRow, AboveTo, LeastRow}

-- a fact of the row at a place
pub of_row : {B : Type 0} (rows : List MemberRow) (i : ℕ) (row : MemberRow) (has : MemberRow → List B) (x : B)
    (b : Bool) (xs : List B)
    → Some row ≡ slice_get rows i → xs ≡ has row → IsTrue b ↔ Contains xs x
    → IsTrue b ↔ ((w : MemberRow) × (slice_get rows i ≡ Some w) × Contains (has w) x)
of_row {B} rows i row has x b xs at e h = (
  λ k. (row, sym at, subst (λ (ys : List B). Contains ys x) e (h.0 k)),
  λ w. h.1 (subst (λ (ys : List B). Contains ys x) (sym e)
      (subst (λ (v : MemberRow). Contains (has v) x) (same_some (slice_get rows i) w.0 row w.1 (sym at)) w.2)),
)

read_at : {A : Type 0} (xs : List A) (i : ℕ) (d : A) → i < length xs → slice_get xs i ≡ Some (get_or xs i d)
read_at xs i d l = slice_get_read xs (length xs) i (get_or xs i d) refl l (get_or_default xs i d (get_or xs i d) l)

-- one more number
one_more : {A : Type 0} (P : A → Type 0) (xs : List A) (i : ℕ) (d : A) → i < length xs
    → ((k : ℕ) (x : A) → k < i → slice_get xs k ≡ Some x → P x)
    → P (get_or xs i d) → (k : ℕ) (x : A) → k < i + 1 → slice_get xs k ≡ Some x → P x
one_more {A} P xs i d l h here k x m at = by_place (cases_lt k i) where
  by_place : (k < i) ⊎ (i ≤ k) → P x
  by_place (inl b) = h k x b at
  by_place (inr b) =
      let e : i ≡ k = omega arith in
      subst P (same_some (slice_get xs k) (get_or xs i d) x
      (subst (λ (n : ℕ). slice_get xs n ≡ Some (get_or xs i d)) e (read_at xs i d l)) at) here

pub passed_more : (rows : List MemberRow) (ids sups : List ClassId) (but : Option ClassId) (i : ℕ) (d : ClassId) → i < length ids
    → PassedTo rows ids sups but i → PassedRow rows ids sups but (get_or ids i d) → PassedTo rows ids sups but (i + 1)
passed_more rows ids sups but i d l h here = one_more (PassedRow rows ids sups but) ids i d l h here

pub fieldless_more : (ids sups : List ClassId) (but : Option ClassId) (i : ℕ) (d : ClassId) → i < length ids
    → FieldlessTo ids sups but i → FieldlessRow sups but (get_or ids i d) → FieldlessTo ids sups but (i + 1)
fieldless_more ids sups but i d l h here = one_more (FieldlessRow sups but) ids i d l h here

abbrev pub StandsLower : List MemberRow → List ClassId → ClassId → ClassId → Type 0
StandsLower rows sups s t = (t ≡ s → ⊥) × Contains sups t × SupAtRow rows t s

pub no_lower_more : (rows : List MemberRow) (ids sups : List ClassId) (s : ClassId) (i : ℕ) (d : ClassId) → i < length ids
    → NoneBefore (StandsLower rows sups s) ids i → (StandsLower rows sups s (get_or ids i d) → ⊥)
    → NoneBefore (StandsLower rows sups s) ids (i + 1)
no_lower_more rows ids sups s i d l h n =
    none_more (StandsLower rows sups s) ids i (get_or ids i d) l (get_or_default ids i d (get_or ids i d) l) n h

pub lower_here : (rows : List MemberRow) (ids sups : List ClassId) (s : ClassId) (i : ℕ) (d : ClassId) → i < length ids
    → StandsLower rows sups s (get_or ids i d) → HasLowerRow rows ids sups s
lower_here rows ids sups s i d l h = (
  get_or ids i d,
  record { among = (i, l, get_or_default ids i (get_or ids i d) d l); super = h.1; other = h.0; below = h.2 },
)

pub no_lower : (rows : List MemberRow) (ids sups : List ClassId) (s : ClassId) (i : ℕ) → length ids ≤ i
    → NoneBefore (StandsLower rows sups s) ids i → HasLowerRow rows ids sups s → ⊥
no_lower rows ids sups s i l h w =
    none_all (StandsLower rows sups s) ids i l h (w.1.among.0, w.0, w.1.among.1, w.1.among.2, (w.1.other, w.1.super, w.1.below))

pub above_more : (rows : List MemberRow) (ids sups : List ClassId) (a : ClassId) (i : ℕ) (d : ClassId) → i < length ids
    → AboveTo rows ids sups a i → AboveRow rows sups a (get_or ids i d) → AboveTo rows ids sups a (i + 1)
above_more rows ids sups a i d l h here = one_more (AboveRow rows sups a) ids i d l h here

-- ---- the least one

pub when_not : (b : Bool) → IsTrue (not b) → b ≡ false
when_not true h = sym h
when_not false h = refl

same_or_other : (a b : ClassId) → (a ≡ b) ⊎ (a ≡ b → ⊥)
same_or_other a b = by_number (cases_eq a.0 b.0) where
  by_number : (a.0 ≡ b.0) ⊎ (a.0 ≡ b.0 → ⊥) → (a ≡ b) ⊎ (a ≡ b → ⊥)
  by_number (inl e) = inl (same_id a b e)
  by_number (inr n) = inr (λ e. n (ap (λ (c : ClassId). c.0) e))

-- a number's first place
pub record FirstPlace (xs : List ClassId) (a : ClassId) : Type 0 where
  pub place : ℕ
  pub at : slice_get xs place ≡ Some a
  pub first : (k : ℕ) → k < place → slice_get xs k ≡ Some a → ⊥

pub first_place : (xs : List ClassId) (a : ClassId) → Contains xs a → FirstPlace xs a
first_place [] a c = absurd (omega (arith, c.1))
first_place (x ∷ xs) a c = by_head (λ d. first_place xs a d) (same_or_other x a) where
  tail : (x ≡ a → ⊥) → (k : ℕ) → k < length (x ∷ xs) → get_or (x ∷ xs) k a ≡ a → Contains xs a
  tail n zero l e = absurd (n e)
  tail n (suc k) l e = (k, omega (arith, l), e)

  behind : (x ≡ a → ⊥) → (p : FirstPlace xs a) → (k : ℕ) → k < suc p.place → slice_get (x ∷ xs) k ≡ Some a → ⊥
  behind n p zero l e = n (same_some (Some x) x a refl e)
  behind n p (suc k) l e = p.first k (omega (arith, l)) e

  by_head : (Contains xs a → FirstPlace xs a) → (x ≡ a) ⊎ (x ≡ a → ⊥) → FirstPlace (x ∷ xs) a
  by_head rest (inl e) = record { place = 0; at = ap Some e; first = λ k l h. absurd (omega (arith, l)) }
  by_head rest (inr n) =
      let p = rest (tail n c.0 c.1 c.2) in
      record { place = suc p.place; at = p.at; first = behind n p }

pub least_row : (rows : List MemberRow) (ids sups : List ClassId) (a : ClassId) → IsOneRow ids sups a
    → AboveTo rows ids sups a (length ids)
    → (HasLowerRow rows ids sups a → ⊥) → LeastRow rows ids sups (least.One a)
least_row rows ids sups a one above none = (
  record { place = p.place; at = p.at; is = record { super = one.1; other = λ e. nothing e; low = none }; before = before },
  all,
) where
  p : FirstPlace ids a
  p = first_place ids a one.0

  nothing : (let o : Option ClassId = None in o ≡ Some a) → ⊥
  nothing e = cc e

  lower : (s : ClassId) → (a ≡ s → ⊥) → SupAtRow rows a s → HasLowerRow rows ids sups s
  lower s n b = (a, record { among = one.0; super = one.1; other = n; below = b })

  passed : (s : ClassId) → (a ≡ s → ⊥) → AboveRow rows sups a s → Contains sups s → HasLowerRow rows ids sups s
  passed s n h has = by_cases (h has) where
    by_cases : (s ≡ a) ⊎ SupAtRow rows a s → HasLowerRow rows ids sups s
    by_cases (inl e) = absurd (n (sym e))
    by_cases (inr b) = lower s n b

  before : PassedTo rows ids sups None p.place
  before k s l at has = inr (passed s other (above k s (slice_get_within ids k s at) at) has) where
    other : a ≡ s → ⊥
    other e = p.first k l (subst (λ (c : ClassId). slice_get ids k ≡ Some c) (sym e) at)

  all : PassedTo rows ids sups (Some a) (length ids)
  all k s l at has = by_cases (same_or_other a s) where
    by_cases : (a ≡ s) ⊎ (a ≡ s → ⊥) → (Some a ≡ Some s) ⊎ HasLowerRow rows ids sups s
    by_cases (inl e) = inl (ap Some e)
    by_cases (inr n) = inr (passed s n (above k s l at) has)
