-- Operands that are taken one after the other, and lists that are compared.
use Rattle.std.proofs.Common.{◌≡◌, refl, sym, ap, ◌∙◌, ℕ, ◌+◌, ◌<◌, List, [], ◌∷◌, ◌++◌, length, drop, take, map, reverse, get_or, ◌-◌, ◌≤◌, Bool, true, false, ◌&&◌, Option, Some, None, nat_eq, arith}
use Rattle.std.proofs.lemmas.Bool.Decides.{nat_tests}
use Rattle.std.proofs.lemmas.List.{length-append, drop-drop, drop_more, map-append, reverse-append, take-append-drop}
use Rattle.jn_code.proofs.Obeyed.{each_both}
use Rattle.jn_code.specs.Kinds.{each_some, kind_of, one}
use Rattle.jn_code.specs.declared.kind.OperandKind.{OperandKind}
use Rattle.jn_code.specs.declared.kind.OperandKind.TheVariants as kind
use Rattle.jn_code.specs.Rows.{kind_eq}
use Rattle.jn_code.specs.Valid.{suits, all_suit, kinds_eq}
use Rattle.jn_verify.specs.Tails.{list_at, IsTaken}

abbrev Lists : Type 0
Lists = List (List OperandKind)

abbrev Wants : Type 0
Wants = List (Option OperandKind)

suit_both : (ws vs : Wants) (ks : List OperandKind) → all_suit (ws ++ vs) ks ≡ all_suit ws ks && all_suit vs (drop (length ws) ks)
suit_both [] vs ks = refl
suit_both (w ∷ ws) vs [] = refl
suit_both (w ∷ ws) vs (k ∷ ks) = by (suit_both ws vs ks) (suits w k)
  where
    by : all_suit (ws ++ vs) ks ≡ all_suit ws ks && all_suit vs (drop (length ws) ks) → (b : Bool) → b && all_suit (ws ++ vs) ks ≡ (b && all_suit ws ks) && all_suit vs (drop (length ws) ks)
    by e true = e
    by e false = refl

pub taken_none : (ls : Lists) (ws vs : Wants) (n : ℕ) → IsTaken ls ws n None → IsTaken ls (ws ++ vs) n None
taken_none ls ws vs n e =
    suit_both ws vs (list_at ls n) ∙ ap (λ b. b && all_suit vs (drop (length ws) (list_at ls n))) e

pub taken_more : (ls : Lists) (ws vs : Wants) (n m : ℕ) (r : Option ℕ) → IsTaken ls ws n (Some m) → IsTaken ls vs m r → IsTaken ls (ws ++ vs) n r
taken_more ls ws vs n m None t u =
    suit_both ws vs (list_at ls n) ∙ ap (λ b. b && all_suit vs (drop (length ws) (list_at ls n))) t.0 ∙ ap (all_suit vs) (sym t.2) ∙ u
taken_more ls ws vs n m (Some l) t u =
    let long : length (ws ++ vs) ≡ length ws + length vs = length-append ws vs in
    let add : length ws + length vs ≡ length (ws ++ vs) = omega arith in (
      suit_both ws vs (list_at ls n) ∙ ap (λ b. b && all_suit vs (drop (length ws) (list_at ls n))) t.0 ∙ ap (all_suit vs) (sym t.2) ∙ u.0,
      u.1,
      u.2 ∙ ap (drop (length vs)) t.2 ∙ drop-drop (length vs) (length ws) (list_at ls n) ∙ ap (λ k. drop k (list_at ls n)) add,
    )

pub taken_nothing : (ls : Lists) (n : ℕ) → n < length ls → IsTaken ls [] n (Some n)
taken_nothing ls n lt = (refl, lt, refl)

pub no_kinds : (ks : List OperandKind) → nat_eq (length ks) 0 ≡ kinds_eq [] ks
no_kinds [] = refl
no_kinds (k ∷ ks) = grind (arith, nat_tests)

pub kinds_same : (ks : List OperandKind) → true ≡ kinds_eq ks ks
kinds_same [] = refl
kinds_same (k ∷ ks) = at (kinds_same ks) k
  where
    at : true ≡ kinds_eq ks ks → (k : OperandKind) → true ≡ kind_eq k k && kinds_eq ks ks
    at e kind.Int = e
    at e kind.Bool = e
    at e kind.Reference = e
    at e kind.Class = e

abbrev pub params_want : List ℕ → Wants
params_want bs = each_some (reverse (map kind_of bs))

-- one parameter more comes last
pub params_more : (bs : List ℕ) (left d : ℕ) → 0 < left → left ≤ length bs → params_want (drop (left - 1) bs) ≡ params_want (drop left bs) ++ one (Some (kind_of (get_or bs (left - 1) d)))
params_more bs left d lo le =
    let e : left - 1 + 1 ≡ left = omega arith in
    let b = get_or bs (left - 1) d in
    let rest = drop left bs in
    let m : drop (left - 1) bs ≡ b ∷ rest = drop_more bs (left - 1) d (omega arith) ∙ ap (λ k. b ∷ drop k bs) e in
    let r : reverse (kind_of b ∷ map kind_of rest) ≡ reverse (map kind_of rest) ++ one (kind_of b) = reverse-append (one (kind_of b)) (map kind_of rest) in
    ap params_want m ∙ ap each_some r ∙ each_both (reverse (map kind_of rest)) (one (kind_of b))

-- those before the place come last
pub params_both : (bs : List ℕ) (left : ℕ) → params_want bs ≡ params_want (drop left bs) ++ params_want (take left bs)
params_both bs left =
    let t : bs ≡ take left bs ++ drop left bs = sym (take-append-drop left bs) in
    ap params_want t ∙ ap (λ ks. each_some (reverse ks)) (map-append kind_of (take left bs) (drop left bs)) ∙ ap each_some (reverse-append (map kind_of (take left bs)) (map kind_of (drop left bs))) ∙ each_both (reverse (map kind_of (drop left bs))) (reverse (map kind_of (take left bs)))
