-- Lists of numbers with what stands for each.
use Rattle.std.specs.Prelude.{◌≡◌, ◌↔◌, ℕ, List, Contains, Option, Some, None}
use Rattle.std.specs.declared.cmp.Ordering.{Ordering}
use Rattle.std.specs.Ordering.{nat_cmp, on, then_cmp}
use Rattle.std.specs.Cmp.{IsTotalOrder, then_total, on_total, nat_cmp_total}
use Rattle.std.specs.List.Sorted.{IsStrictlySortedBy}
use Rattle.jn_layout.specs.declared.pairs.Pair.{Pair}

abbrev pub pair_key : Pair → ℕ
pair_key x = x.key

abbrev pub pair_value : Pair → ℕ
pair_value x = x.value

-- by the numbers, then by what stands for them
abbrev pub pair_cmp : Pair → Pair → Ordering
pair_cmp = then_cmp (on pair_key nat_cmp) (on pair_value nat_cmp)

pub pair_total : IsTotalOrder pair_cmp
pair_total = then_total (on_total pair_key nat_cmp_total) (on_total pair_value nat_cmp_total)

-- exactly the pairs of which T holds, in order
pub record AreEntries (T : ℕ → ℕ → Type 0) (pairs : List Pair) : Type 0 where
  pub exact : (x : Pair) → Contains pairs x ↔ T x.key x.value
  pub in_order : IsStrictlySortedBy pair_cmp pairs

-- ---- lists that are gathered

-- it is the only one of which T holds; none where T holds of nothing
abbrev pub OnlyIs : {B : Type 0} → (B → Type 0) → Option B → Type 0
OnlyIs {B} T None = (e : B) → T e → ⊥
OnlyIs {B} T (Some e) = T e × ((d : B) → T d → d ≡ e)

-- what Q gives of some one of the things, and nothing else
pub record Gathers {A B : Type 0} (Q : A → B → Type 0) (xs : List A) (out : List B) : Type 0 where
  pub sound : (e : B) → Contains out e → (x : A) × Contains xs x × Q x e
  pub complete : (x : A) (e : B) → Contains xs x → Q x e → Contains out e
