-- What is known, by the numbers of lists.
use Rattle.std.proofs.Common.{◌≡◌, refl, sym, ap, ◌∙◌, ℕ, zero, suc, ◌<◌, List, [], ◌∷◌, ◌++◌, length, replicate, get_or, Option, Some, None, slice_get, slice_set, All, Bool, true, false, arith}
use Rattle.std.specs.Option.{option_map}
use Rattle.std.specs.Prelude.{if◌then◌else◌}
use Rattle.std.proofs.lemmas.List.{length-append, get_or_append_left, map-set}
use Rattle.std.proofs.lemmas.Option.{slice_get-map, slice_get-get_or}
use Rattle.std.proofs.lemmas.List.Elements.{All-head, All-tail, All-cons, All-nil}
use Rattle.jn_code.specs.declared.kind.OperandKind.{OperandKind}
use Rattle.jn_code.specs.declared.fault.CodeWhy.TheVariants as why
use Rattle.jn_code.specs.declared.image.Image.{Image}
use Rattle.jn_code.specs.declared.image.Code.{Code}
use Rattle.jn_code.specs.declared.instr.Instr.{Instr}
use Rattle.jn_code.specs.Valid.{Pass, Known, Found, before, or_none, settle, settle_as, give, give_to, kinds_eq, pass_from, pass_all}
use Rattle.jn_verify.specs.Tails.{list_at, seen, IsThere}

abbrev Lists : Type 0
Lists = List (List OperandKind)

-- more lists change nothing
pub there_more : (ls more : Lists) (o : Option ℕ) → IsThere ls o → IsThere (ls ++ more) o
there_more ls more None h = tt
there_more ls more (Some m) h = let l = length-append ls more in omega arith

same_more : (ls more : Lists) (o : Option ℕ) → IsThere ls o → option_map (list_at (ls ++ more)) o ≡ option_map (list_at ls) o
same_more ls more None h = refl
same_more ls more (Some m) h = ap Some (get_or_append_left ls more [] m h)

pub seen_more : (ls more : Lists) (notes : List (Option ℕ)) → All (IsThere ls) notes → seen (ls ++ more) notes ≡ seen ls notes
seen_more ls more [] h = refl
seen_more ls more (o ∷ os) h =
    ap (λ (x : Option (List OperandKind)). x ∷ seen (ls ++ more) os) (same_more ls more o (All-head (IsThere ls) o os h)) ∙ ap (λ (xs : List (Option (List OperandKind))). option_map (list_at ls) o ∷ xs) (seen_more ls more os (All-tail (IsThere ls) o os h))

pub all_more : (ls more : Lists) (notes : List (Option ℕ)) → All (IsThere ls) notes → All (IsThere (ls ++ more)) notes
all_more ls more [] h = All-nil (IsThere (ls ++ more))
all_more ls more (o ∷ os) h =
    All-cons (IsThere (ls ++ more)) o os (there_more ls more o (All-head (IsThere ls) o os h)) (all_more ls more os (All-tail (IsThere ls) o os h))

pub seen_nothing : (ls : Lists) (n : ℕ) → seen ls (replicate n None) ≡ replicate n None
seen_nothing ls zero = refl
seen_nothing ls (suc n) = ap (λ (xs : List (Option (List OperandKind))). None ∷ xs) (seen_nothing ls n)

-- what is known before instruction n
pub noted : (notes : List (Option ℕ)) (n : ℕ) (o : Option ℕ) → n < length notes → o ≡ get_or notes n o → slice_get notes n ≡ Some o
noted notes n o lt e = slice_get-get_or notes n o lt ∙ ap Some (sym e)

seen_at : (ls : Lists) (notes : List (Option ℕ)) (n : ℕ) (o : Option ℕ) → slice_get notes n ≡ Some o → slice_get (seen ls notes) n ≡ Some (option_map (list_at ls) o)
seen_at ls notes n o e =
    slice_get-map (option_map (list_at ls)) notes n ∙ ap (option_map (option_map (list_at ls))) e

pub settled : (ls : Lists) (notes : List (Option ℕ)) (n z : ℕ) → slice_get notes n ≡ Some None → list_at ls z ≡ [] → seen ls (slice_set notes n (Some z)) ≡ settle n (seen ls notes)
settled ls notes n z e empty =
    map-set (option_map (list_at ls)) notes n (Some z) ∙ ap (λ (ks : List OperandKind). slice_set (seen ls notes) n (Some ks)) empty ∙ sym (ap (settle_as n (seen ls notes)) (seen_at ls notes n None e))

pub none_before : (ls : Lists) (notes : List (Option ℕ)) (n : ℕ) → slice_get notes n ≡ Some None → [] ≡ before (seen ls notes) n
none_before ls notes n e = sym (ap or_none (seen_at ls notes n None e))

pub given_new : (ls : Lists) (notes : List (Option ℕ)) (to kinds : ℕ) → slice_get notes to ≡ Some None → (n : ℕ) → Known (seen ls (slice_set notes to (Some kinds))) ≡ give n to (list_at ls kinds) (seen ls notes)
given_new ls notes to kinds e n =
    ap Known (map-set (option_map (list_at ls)) notes to (Some kinds)) ∙ sym (ap (give_to n to (list_at ls kinds) (seen ls notes)) (seen_at ls notes to None e))

old_is : (ls : Lists) (notes : List (Option ℕ)) (to kinds old n : ℕ) → slice_get notes to ≡ Some (Some old) → give n to (list_at ls kinds) (seen ls notes) ≡ (if kinds_eq (list_at ls old) (list_at ls kinds) then Known (seen ls notes) else Found n why.Join)
old_is ls notes to kinds old n e = ap (give_to n to (list_at ls kinds) (seen ls notes)) (seen_at ls notes to (Some old) e)

pub given_same : (ls : Lists) (notes : List (Option ℕ)) (to kinds old : ℕ) → slice_get notes to ≡ Some (Some old) → true ≡ kinds_eq (list_at ls old) (list_at ls kinds) → (n : ℕ) → Known (seen ls notes) ≡ give n to (list_at ls kinds) (seen ls notes)
given_same ls notes to kinds old e q n =
    ap (λ (b : Bool). let r : Pass = (if b then Known (seen ls notes) else Found n why.Join) in r) q ∙ sym (old_is ls notes to kinds old n e)

pub given_other : (ls : Lists) (notes : List (Option ℕ)) (to kinds old : ℕ) → slice_get notes to ≡ Some (Some old) → false ≡ kinds_eq (list_at ls old) (list_at ls kinds) → (n : ℕ) → Found n why.Join ≡ give n to (list_at ls kinds) (seen ls notes)
given_other ls notes to kinds old e q n =
    ap (λ (b : Bool). let r : Pass = (if b then Known (seen ls notes) else Found n why.Join) in r) q ∙ sym (old_is ls notes to kinds old n e)

-- at first nothing is known
pub begins : (i : Image) (c : Code) (xs : List Instr) (ls : Lists) (notes : List (Option ℕ)) → 0 < length xs → notes ≡ replicate (length xs) None → pass_from i c 0 xs (seen ls notes) ≡ pass_all i c xs
begins i c [] ls notes lt e = absurd (omega arith)
begins i c (x ∷ xs) ls notes lt e =
    ap (λ (ns : List (Option ℕ)). pass_from i c 0 (x ∷ xs) (seen ls ns)) e ∙ ap (pass_from i c 0 (x ∷ xs)) (seen_nothing ls (length (x ∷ xs)))
