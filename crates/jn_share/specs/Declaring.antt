-- How the declarations of the fields of each class are found among the field types.
use Rattle.std.specs.Prelude.{◌≡◌, ◌<◌, ℕ, List, Contains, Any, slice_get, Some}
use Rattle.jn_reach.specs.Graph.{Graph, HasEdge}
use Rattle.jn_base.specs.declared.tree.Name.{Name}
use Rattle.jn_table.specs.declared.class.ClassId.{ClassId}
use Rattle.jn_table.specs.declared.field_types.FieldTy.{FieldTy}

-- the entry of the number i is declared at the class of the number a
abbrev pub StandsAtClass : List FieldTy → ℕ → ℕ → Type 0
StandsAtClass types a i = (x : FieldTy) × (slice_get types i ≡ Some x) × (x.class.0 ≡ a)

-- for each class below `count` the numbers of its own entries
pub record AreOwn (types : List FieldTy) (count : ℕ) (own : Graph) : Type 0 where
  pub sound : (a i : ℕ) → HasEdge own a i → StandsAtClass types a i
  pub complete : (a i : ℕ) → a < count → StandsAtClass types a i → HasEdge own a i

-- the entry is one of a class of those numbers
abbrev pub OwnAmong : Graph → List ClassId → ℕ → Type 0
OwnAmong own sups i = Any (λ s. HasEdge own s.0 i) sups

-- each field name of the entries is below that number
abbrev pub Wide : List FieldTy → ℕ → Type 0
Wide types n = (i : ℕ) (x : FieldTy) → slice_get types i ≡ Some x → x.field.0 < n

-- for the field of each entry of `was` the number of such an entry with this field stands under the field's name
abbrev pub Noted : List FieldTy → List ℕ → List ℕ → Type 0
Noted types was last = (i : ℕ) (x : FieldTy) → Contains was i → slice_get types i ≡ Some x
    → (j : ℕ) × (y : FieldTy) × (slice_get last x.field.0 ≡ Some j) × Contains was j × (slice_get types j ≡ Some y) × (y.field ≡ x.field)

-- what stands under the name of the field
abbrev pub UnderName : List ℕ → Name → ℕ → Type 0
UnderName last f d = (n : ℕ) → slice_get last f.0 ≡ Some n → d ≡ n
