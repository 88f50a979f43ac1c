-- How lists share their tails: each but the empty one, which is number 0, is a kind before a list with a lower number.
use Rattle.std.specs.Prelude.{◌≡◌, ℕ, suc, ◌≤◌, List, [], ◌∷◌, ◌++◌, length, Some, slice_get}
use Rattle.jn_code.specs.declared.kind.OperandKind.{OperandKind}
use Rattle.jn_verify.specs.declared.tails.Node.{Node}
use Rattle.jn_verify.specs.Tails.{list_at}

-- the lists ls and those of the nodes
abbrev pub lists_from : List (List OperandKind) → List Node → List (List OperandKind)
lists_from ls [] = ls
lists_from ls (x ∷ xs) = lists_from (ls ++ (x.kind ∷ list_at ls x.below) ∷ []) xs

abbrev pub lists_of : List Node → List (List OperandKind)
lists_of xs = lists_from ([] ∷ []) xs

-- A node is after the one below it, and has its list's length.
pub record IsNode (xs : List Node) (n : ℕ) (x : Node) : Type 0 where
  pub below : x.below ≤ n
  pub height : x.height ≡ length (list_at (lists_of xs) (suc n))
  pub low : x.height ≤ suc n

abbrev pub AreNodes : List Node → Type 0
AreNodes xs = (n : ℕ) (x : Node) → slice_get xs n ≡ Some x → IsNode xs n x
