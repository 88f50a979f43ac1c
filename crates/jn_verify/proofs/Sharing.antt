-- Lists that share their tails.
use Rattle.std.proofs.Common.{◌≡◌, refl, sym, ap, ◌∙◌, ℕ, zero, suc, ◌+◌, ◌<◌, ◌≤◌, List, [], ◌∷◌, ◌++◌, length, get_or, ◌-◌, Some, slice_get, arith, subst, inl, inr}
use Rattle.std.proofs.lemmas.List.{length-append, get_or_append_left}
use Rattle.std.proofs.Math.Seq.{get_or-append_seam}
use Rattle.std.proofs.lemmas.Option.{slice_get-get_or, slice_get_within}
use Rattle.jn_code.proofs.Words.{get_either}
use Rattle.jn_code.specs.declared.kind.OperandKind.{OperandKind}
use Rattle.jn_verify.specs.declared.tails.Node.{Node}
use Rattle.jn_verify.specs.Tails.{list_at}
use Rattle.jn_verify.specs.Shared.{lists_from, lists_of, IsNode, AreNodes}

abbrev Lists : Type 0
Lists = List (List OperandKind)

abbrev made : Lists → Node → List OperandKind
made ls x = x.kind ∷ list_at ls x.below

pub from_long : (ls : Lists) (xs : List Node) → length (lists_from ls xs) ≡ length ls + length xs
from_long ls [] = omega arith
from_long ls (x ∷ xs) =
    let e = from_long (ls ++ made ls x ∷ []) xs in
    let l = length-append ls (made ls x ∷ []) in
    omega arith

-- the lists that were there stay
pub from_keeps : (ls : Lists) (xs : List Node) (k : ℕ) → k < length ls → list_at (lists_from ls xs) k ≡ list_at ls k
from_keeps ls [] k lt = refl
from_keeps ls (x ∷ xs) k lt =
    let l = length-append ls (made ls x ∷ []) in
    from_keeps (ls ++ made ls x ∷ []) xs k (omega arith) ∙ get_or_append_left ls (made ls x ∷ []) [] k lt

pub from_at : (ls : Lists) (xs : List Node) (j : ℕ) (x : Node) → slice_get xs j ≡ Some x → x.below < length ls + j → list_at (lists_from ls xs) (length ls + j) ≡ made (lists_from ls xs) x
from_at ls [] j x e lt = absurd cc
from_at ls (y ∷ xs) zero x e lt =
    let q : y ≡ x = cc in
    let l = length-append ls (made ls y ∷ []) in
    let z : length ls + 0 ≡ length ls = omega arith in
    let b : y.below < length ls = subst (λ (x : Node). x.below < length ls) (sym q) (omega arith) in
    let new : list_at (ls ++ made ls y ∷ []) (length ls) ≡ made ls y = get_or-append_seam ls (made ls y) [] [] in
    let old : list_at (lists_from ls (y ∷ xs)) y.below ≡ list_at ls y.below = from_keeps ls (y ∷ xs) y.below b in
    subst (λ (x : Node). list_at (lists_from ls (y ∷ xs)) (length ls + 0) ≡ made (lists_from ls (y ∷ xs)) x) q
    (ap (list_at (lists_from ls (y ∷ xs))) z ∙ from_keeps (ls ++ made ls y ∷ []) xs (length ls) (omega arith) ∙ new ∙ ap (λ (ks : List OperandKind). y.kind ∷ ks) (sym old))
from_at ls (y ∷ xs) (suc j) x e lt =
    let l = length-append ls (made ls y ∷ []) in
    let n : length (ls ++ made ls y ∷ []) + j ≡ length ls + suc j = omega arith in
    subst (λ (k : ℕ). list_at (lists_from ls (y ∷ xs)) k ≡ made (lists_from ls (y ∷ xs)) x) n (from_at (ls ++ made ls y ∷ []) xs j x e (omega arith))

pub from_more : (ls : Lists) (xs : List Node) (x : Node) → lists_from ls (xs ++ x ∷ []) ≡ lists_from ls xs ++ made (lists_from ls xs) x ∷ []
from_more ls [] x = refl
from_more ls (y ∷ xs) x = from_more (ls ++ made ls y ∷ []) xs x

pub lists_long : (xs : List Node) → length (lists_of xs) ≡ suc (length xs)
lists_long xs = let e = from_long ([] ∷ []) xs in omega arith

pub no_list : (xs : List Node) → list_at (lists_of xs) 0 ≡ []
no_list xs = from_keeps ([] ∷ []) xs 0 (omega arith)

-- the list of a node
pub node_list : (xs : List Node) (n : ℕ) (x : Node) → AreNodes xs → slice_get xs n ≡ Some x → list_at (lists_of xs) (suc n) ≡ x.kind ∷ list_at (lists_of xs) x.below
node_list xs n x ok e =
    let b = (ok n x e).below in
    let k : 1 + n ≡ suc n = omega arith in
    subst (λ (k : ℕ). list_at (lists_of xs) k ≡ made (lists_of xs) x) k (from_at ([] ∷ []) xs n x e (omega arith))

pub lists_more : (xs : List Node) (x : Node) → lists_of (xs ++ x ∷ []) ≡ lists_of xs ++ (x.kind ∷ list_at (lists_of xs) x.below) ∷ []
lists_more xs x = from_more ([] ∷ []) xs x

-- the node of a list that is not empty
pub record IsAt (xs : List Node) (n : ℕ) (x : Node) : Type 0 where
  pub list : list_at (lists_of xs) n ≡ x.kind ∷ list_at (lists_of xs) x.below
  pub below : x.below < n
  pub height : x.height ≡ length (list_at (lists_of xs) n)
  pub low : x.height ≤ n

pub node_at : (xs : List Node) (n : ℕ) (x : Node) → AreNodes xs → (n ≡ 0 → ⊥) → n - 1 < length xs → x ≡ get_or xs (n - 1) x → IsAt xs n x
node_at xs zero x ok not0 lt e = absurd (not0 refl)
node_at xs (suc n) x ok not0 lt e =
    let m : suc n - 1 ≡ n = omega arith in
    let lt' : n < length xs = omega arith in
    let e' : x ≡ get_or xs n x = e ∙ ap (λ k. get_or xs k x) m in
    let s : slice_get xs n ≡ Some x = slice_get-get_or xs n x lt' ∙ ap Some (sym e') in
    let k = ok n x s in
    let b = k.below in
    record { list = node_list xs n x ok s; below = omega arith; height = k.height; low = k.low }

pub nodes_more : (xs : List Node) (x : Node) → AreNodes xs → x.below ≤ length xs → x.height ≡ suc (length (list_at (lists_of xs) x.below)) → x.height ≤ suc (length xs) → AreNodes (xs ++ x ∷ [])
nodes_more xs x ok b h low n y e =
    let more = lists_more xs x in
    let long = lists_long xs in
    elim (get_either xs (x ∷ []) n y e) [
      | inl u ↦
          let lt = slice_get_within xs n y u in
          let same : list_at (lists_of (xs ++ x ∷ [])) (suc n) ≡ list_at (lists_of xs) (suc n) = ap (λ (ls : Lists). list_at ls (suc n)) more ∙ get_or_append_left (lists_of xs) (made (lists_of xs) x ∷ []) [] (suc n) (omega arith) in
          let k = ok n y u in
          record { below = k.below; height = k.height ∙ ap length (sym same); low = k.low }
      | inr u ↦ last u.0 u.1 u.2
    ]
  where
    last : (m : ℕ) → n ≡ length xs + m → slice_get (x ∷ []) m ≡ Some y → IsNode (xs ++ x ∷ []) n y
    last zero q s =
        let z : x ≡ y = cc in
        let at : suc n ≡ length (lists_of xs) = omega (arith, lists_long xs) in
        let new : list_at (lists_of (xs ++ x ∷ [])) (suc n) ≡ made (lists_of xs) x = ap (λ (ls : Lists). list_at ls (suc n)) (lists_more xs x) ∙ ap (list_at (lists_of xs ++ made (lists_of xs) x ∷ [])) at ∙ get_or-append_seam (lists_of xs) (made (lists_of xs) x) [] [] in
        let is : IsNode (xs ++ x ∷ []) n x = record { below = omega arith; height = h ∙ ap length (sym new); low = omega arith } in
        subst (IsNode (xs ++ x ∷ []) n) z is
    last (suc m) q s = absurd cc
