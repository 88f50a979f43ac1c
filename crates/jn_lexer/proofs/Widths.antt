-- How many bytes characters take.
use Rattle.std.proofs.Common.{◌≡◌, ℕ, ◌+◌, ◌<◌, ◌≤◌, List, [], ◌∷◌, ◌++◌, length, take, get_or, refl, sym, ◌∙◌, ap, subst, arith, length-append}
use Rattle.std.specs.Char.{len_utf8, encode_utf8}
use Rattle.std.specs.List.{sum_by}
use Rattle.std.specs.Str.{encode_utf8_all}
use Rattle.std.proofs.lemmas.List.Sums.{sum_by-cons, sum_by_more, sum_by-take-le}
use Rattle.std.proofs.lemmas.Str.{length-encode, encodes-append}
use Rattle.jn_base.specs.Tokens.{width}

pub width-cons : (c : ℕ) (cs : List ℕ) → width (c ∷ cs) ≡ len_utf8 c + width cs
width-cons c cs = length-append (encode_utf8 c) (encode_utf8_all cs) ∙ ap (λ n. n + width cs) (length-encode c)

pub width_sum : (cs : List ℕ) → width cs ≡ sum_by len_utf8 cs
width_sum [] = refl
width_sum (c ∷ cs) = width-cons c cs ∙ ap (λ n. len_utf8 c + n) (width_sum cs) ∙ sym (sum_by-cons len_utf8 c cs)

pub width-append : (v w : List ℕ) → width (v ++ w) ≡ width v + width w
width-append v w = ap length (encodes-append v w) ∙ length-append (encode_utf8_all v) (encode_utf8_all w)

width_more : (cs : List ℕ) (i d : ℕ) → i < length cs → width (take (i + 1) cs) ≡ width (take i cs) + len_utf8 (get_or cs i d)
width_more cs i d h =
    width_sum (take (i + 1) cs) ∙ sum_by_more len_utf8 cs i d h ∙ ap (λ n. n + len_utf8 (get_or cs i d)) (sym (width_sum (take i cs)))

pub width_part : (cs : List ℕ) (i : ℕ) → width (take i cs) ≤ width cs
width_part cs i = subst (λ n. n ≤ width cs) (sym (width_sum (take i cs))) (subst (λ n. sum_by len_utf8 (take i cs) ≤ n) (sym (width_sum cs)) (sum_by-take-le len_utf8 cs i))

-- the width of one more character
pub next_width : (cs : List ℕ) (i c bytes len : ℕ) → i < length cs → c ≡ get_or cs i c → bytes ≡ width (take i cs) → len ≡ len_utf8 c
    → bytes + len ≡ width (take (i + 1) cs)
next_width cs i c bytes len h is b l =
    let more : width (take (i + 1) cs) ≡ width (take i cs) + len_utf8 (get_or cs i c) = width_more cs i c h in
    let same : len_utf8 (get_or cs i c) ≡ len_utf8 c = ap len_utf8 (sym is) in
    omega arith
