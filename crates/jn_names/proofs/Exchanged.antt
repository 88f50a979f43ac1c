-- Two lists of numbers in ascending order: what is the least one, the only one or the first of those that are in both is
-- so whichever list is walked.
use Rattle.std.proofs.Common.{◌≡◌, ◌<◌, ◌≤◌, ℕ, List, length, slice_get, Some, None, Option, subst, ◌⊎◌, inl}
use Rattle.std.proofs.Common.{inr, Contains, arith}
use Rattle.std.proofs.lemmas.Bool.{cases_lt}
use Rattle.std.proofs.lemmas.Option.{slice_get_within, slice_get-get_or}
use Rattle.jn_table.specs.declared.class.ClassId.{ClassId}
use Rattle.jn_table.proofs.Shown.{same_id}
use Rattle.jn_names.specs.declared.member_row.MemberRow.{MemberRow}
use Rattle.jn_names.specs.declared.members.Least.{Least}
use Rattle.jn_names.specs.declared.members.Least.TheVariants as least
use Rattle.jn_names.specs.Ascending.{Ascend}
use Rattle.jn_names.specs.MemberRows.{HasLowerRow, PassedTo, FirstLowRow}
use Rattle.jn_names.specs.MemberRows.{FieldlessTo, FirstFieldRow, LeastRow, FieldRow}
use Rattle.jn_names.proofs.Keeping.{stands, ascend_at}
use Rattle.jn_names.proofs.MemberRowProof.{FirstPlace, first_place}

-- a number's place
place_of : (ids : List ClassId) (x : ClassId) → Contains ids x → (k : ℕ) × (slice_get ids k ≡ Some x)
place_of ids x c = (c.0, subst (λ (y : ClassId). slice_get ids c.0 ≡ Some y) c.2 (slice_get-get_or ids c.0 x c.1))

-- of the first n of the numbers, each that is in the other list too
abbrev EachTo : (ClassId → Type 0) → List ClassId → List ClassId → ℕ → Type 0
EachTo P xs ys n = (k : ℕ) (s : ClassId) → k < n → slice_get xs k ≡ Some s → Contains ys s → P s

all_exchanged : (P : ClassId → Type 0) (xs ys : List ClassId) → EachTo P ys xs (length ys) → EachTo P xs ys (length xs)
all_exchanged P xs ys h k s l at c =
    let q = place_of ys s c in
    h q.0 s (slice_get_within ys q.0 s q.1) q.1 (stands xs k s at)

-- what is in both lists and stands before the first place of a in one of them stands before each place of a in the other
before_exchanged : (P : ClassId → Type 0) (xs ys : List ClassId) (a : ClassId) → Ascend xs → Ascend ys → (p : FirstPlace xs a)
    → (n : ℕ) → slice_get ys n ≡ Some a → EachTo P ys xs n → EachTo P xs ys p.place
before_exchanged P xs ys a up also p n there h k s l at c = by_order (cases_lt q.0 n) where
  q : (j : ℕ) × (slice_get ys j ≡ Some s)
  q = place_of ys s c

  by_order : (q.0 < n) ⊎ (n ≤ q.0) → P s
  by_order (inl b) = h q.0 s b q.1 (stands xs k s at)
  by_order (inr b) =
      let low = ascend_at xs up k p.place s a (omega (arith, l)) at p.at in
      let high = ascend_at ys also n q.0 a s b there q.1 in
      let same : s ≡ a = same_id s a (omega (arith, low, high)) in
      absurd (p.first k l (subst (λ (x : ClassId). slice_get xs k ≡ Some x) same at))

module _ (rows : List MemberRow) (ids sups : List ClassId) where
  lower_back : (s : ClassId) → HasLowerRow rows sups ids s → HasLowerRow rows ids sups s
  lower_back s w = (w.0, record { among = w.1.super; super = w.1.among; other = w.1.other; below = w.1.below })

  lower_on : (s : ClassId) → HasLowerRow rows ids sups s → HasLowerRow rows sups ids s
  lower_on s w = (w.0, record { among = w.1.super; super = w.1.among; other = w.1.other; below = w.1.below })

  abbrev Passes : Option ClassId → ClassId → Type 0
  Passes but s = (but ≡ Some s) ⊎ HasLowerRow rows ids sups s

  passes : (but : Option ClassId) (s : ClassId) → (but ≡ Some s) ⊎ HasLowerRow rows sups ids s → Passes but s
  passes but s (inl e) = inl e
  passes but s (inr w) = inr (lower_back s w)

  passed_all : (but : Option ClassId) → PassedTo rows sups ids but (length sups) → PassedTo rows ids sups but (length ids)
  passed_all but h = all_exchanged (Passes but) ids sups (λ k s l at c. passes but s (h k s l at c))

  module _ (up : Ascend ids) (also : Ascend sups) where
    first_low_exchanged : (but : Option ClassId) (a : ClassId) → FirstLowRow rows sups ids but a → FirstLowRow rows ids sups but a
    first_low_exchanged but a f =
        let p = first_place ids a f.is.super in
        record {
          place = p.place;
          at = p.at;
          is = record { super = stands sups f.place a f.at; other = f.is.other; low = λ w. f.is.low (lower_on a w) };
          before =
              before_exchanged (Passes but) ids sups a up also p f.place f.at
              (λ k s l at c. passes but s (f.before k s l at c));
        }

    pub least_exchanged : (told : Least) → LeastRow rows sups ids told → LeastRow rows ids sups told
    least_exchanged least.None h = passed_all None h
    least_exchanged (least.One a) h = (first_low_exchanged None a h.0, passed_all (Some a) h.1)
    least_exchanged (least.Many a b) h = (first_low_exchanged None a h.0, first_low_exchanged (Some a) b h.1)

module _ (ids sups : List ClassId) where
  fieldless_all : (but : Option ClassId) → FieldlessTo sups ids but (length sups) → FieldlessTo ids sups but (length ids)
  fieldless_all but h = all_exchanged (λ s. but ≡ Some s) ids sups h

  module _ (up : Ascend ids) (also : Ascend sups) where
    first_field_exchanged : (but : Option ClassId) (a : ClassId) → FirstFieldRow sups ids but a → FirstFieldRow ids sups but a
    first_field_exchanged but a f =
        let p = first_place ids a f.is.super in
        record {
          place = p.place;
          at = p.at;
          is = record { super = stands sups f.place a f.at; other = f.is.other };
          before = before_exchanged (λ s. but ≡ Some s) ids sups a up also p f.place f.at f.before;
        }

    pub field_exchanged : (told : Least) → FieldRow sups ids told → FieldRow ids sups told
    field_exchanged least.None h = fieldless_all None h
    field_exchanged (least.One a) h = (first_field_exchanged None a h.0, fieldless_all (Some a) h.1)
    field_exchanged (least.Many a b) h = (first_field_exchanged None a h.0, first_field_exchanged (Some a) b h.1)
