-- Keys in an order in which one is found by halves.
use Rattle.std.specs.Prelude.{◌≡◌, ◌<◌, ℕ, List, Bool, true, false, leb, Contains, Some, map, slice_get}
use Rattle.std.specs.declared.vec.Vec.{Vec}
use Rattle.std.specs.declared.alloc.Global.{Global}
use Rattle.std.specs.declared.cmp.Ordering.{Ordering}
use Rattle.std.specs.Ordering.{nat_cmp, on, then_cmp, ordering_index}
use Rattle.std.specs.Cmp.{IsTotalOrder, then_total, on_total, nat_cmp_total}
use Rattle.std.specs.Cmp.Lexicographic.{slice_cmp, nat_list_cmp_total}
use Rattle.std.specs.List.Sorted.{IsSorted}
use Rattle.jn_index.specs.declared.index.Placed.{Placed}

abbrev pub numbers_of : Vec ℕ Global → List ℕ
numbers_of v = v.items

abbrev pub keys_in : List (Vec ℕ Global) → List (List ℕ)
keys_in keys = map numbers_of keys

abbrev pub key_of : Placed → List ℕ
key_of x = x.key.items

abbrev pub place_at : Placed → ℕ
place_at x = x.place

-- by the numbers of the key, from the first on, and then by the place
abbrev pub placed_cmp : Placed → Placed → Ordering
placed_cmp = then_cmp (on key_of (slice_cmp nat_cmp)) (on place_at nat_cmp)

pub placed_total : IsTotalOrder placed_cmp
placed_total = then_total (on_total key_of nat_list_cmp_total) (on_total place_at nat_cmp_total)

-- whether the one comes before the key
abbrev pub comes_before : List ℕ → Placed → Bool
comes_before key x = leb (ordering_index (slice_cmp nat_cmp (key_of x) key)) 0

-- they are the keys, and each has its place
pub record AreNumbered (keys : List (List ℕ)) (all : List Placed) : Type 0 where
  pub keys_are : map key_of all ≡ keys
  pub placed : (k : ℕ) (x : Placed) → slice_get all k ≡ Some x → x.place ≡ k

-- the key stands at the place
pub record IsPlaced (index : List Placed) (key : List ℕ) (k : ℕ) : Type 0 where
  pub one : Placed
  pub among : Contains index one
  pub has : key_of one ≡ key
  pub stands : one.place ≡ k

-- each is a key with its place, no key is without one, and they are in order
pub record IsIndex (keys : List (List ℕ)) (index : List Placed) : Type 0 where
  pub sound : (x : Placed) → Contains index x → slice_get keys x.place ≡ Some (key_of x)
  pub complete : (k : ℕ) (key : List ℕ) → slice_get keys k ≡ Some key → IsPlaced index key k
  pub sorted : IsSorted placed_cmp index

-- the key stands there, and nowhere before
pub record IsFirst (keys : List (List ℕ)) (key : List ℕ) (k : ℕ) : Type 0 where
  pub at : slice_get keys k ≡ Some key
  pub none_before : (j : ℕ) → j < k → slice_get keys j ≡ Some key → ⊥

-- the key stands nowhere before the place, or at a place before it
abbrev pub FirstTold : List (List ℕ) → List ℕ → ℕ → Bool → Type 0
FirstTold keys key k true = (j : ℕ) → j < k → slice_get keys j ≡ Some key → ⊥
FirstTold keys key k false = (j : ℕ) × (j < k) × (slice_get keys j ≡ Some key)
