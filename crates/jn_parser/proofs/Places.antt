-- Places, byte by byte.
use Rattle.std.proofs.Common.{◌≡◌, ℕ, ◌+◌, ◌-◌, ◌≤◌, ◌==◌, Bool, true, false, not, List, [], ◌∷◌, ◌++◌, length, take, drop, min, reverse, cond, refl, sym, ◌∙◌, ap, append_assoc, arith, if◌then◌else◌, length-drop}
use Rattle.std.specs.List.{after_last, suffix_len, prefix_len, count_by}
use Rattle.std.proofs.lemmas.List.{append-nil, length-take, reverse-append}
use Rattle.std.proofs.lemmas.Grind.{common_steps}
use Rattle.std.proofs.lemmas.List.Sums.{sum_by-append, count_by-le-length, suffix_len-le-length}
use Rattle.std.proofs.Math.Seq.{take-add}
use Rattle.jn_base.specs.declared.tree.Place.{Place}
use Rattle.jn_base.specs.Places.{place_of}
use Rattle.jn_base.specs.Tokens.{line_feed}
use Rattle.jn_parser.specs.Moved.{next_place, moved}

abbrev ends : ℕ → Bool
ends b = b == line_feed

abbrev stays : ℕ → Bool
stays b = not (b == line_feed)

-- the place behind bytes
abbrev pub behind : List ℕ → Place
behind w = record { line = 1 + count_by ends w; column = 1 + length (after_last ends w) }

column_is : (w : List ℕ) → length (after_last ends w) ≡ suffix_len stays w
column_is w = omega (arith, length-drop (length w - suffix_len stays w) w, suffix_len-le-length stays w)

last_first : (w : List ℕ) (b : ℕ) → reverse (w ++ b ∷ []) ≡ b ∷ reverse w
last_first w b = reverse-append w (b ∷ [])

one_more : (w : List ℕ) (b : ℕ) → suffix_len stays (w ++ b ∷ []) ≡ cond (stays b) (1 + suffix_len stays w) 0
one_more w b = ap (prefix_len stays) (last_first w b)

next_behind : (w : List ℕ) (b : ℕ) → next_place (behind w) b ≡ behind (w ++ b ∷ [])
next_behind w b = by_test (b == line_feed) refl
  where
    counted : count_by ends (w ++ b ∷ []) ≡ count_by ends w + (0 + cond (b == line_feed) 1 0)
    counted = sum_by-append (λ x. cond (ends x) 1 0) w (b ∷ [])

    columns : length (after_last ends (w ++ b ∷ [])) ≡ cond (stays b) (1 + suffix_len stays w) 0
    columns = column_is (w ++ b ∷ []) ∙ one_more w b

    by_test : (c : Bool) → (b == line_feed) ≡ c → next_place (behind w) b ≡ behind (w ++ b ∷ [])
    by_test true e =
        let line : 1 + count_by ends w + 1 ≡ 1 + count_by ends (w ++ b ∷ []) = omega (arith, counted ∙ ap (λ (t : Bool). count_by ends w + (0 + cond t 1 0)) e) in
        let column : 1 ≡ 1 + length (after_last ends (w ++ b ∷ [])) = omega (arith, columns ∙ ap (λ (t : Bool). cond (not t) (1 + suffix_len stays w) 0) e) in
        ap (λ (t : Bool). if t then record { line = 1 + count_by ends w + 1; column = 1 } else record { line = 1 + count_by ends w; column = 1 + length (after_last ends w) + 1 }) e
        ∙ ap (λ l. record { line = l; column = 1 }) line ∙ ap (λ k. record { line = 1 + count_by ends (w ++ b ∷ []); column = k }) column
    by_test false e =
        let line : 1 + count_by ends w ≡ 1 + count_by ends (w ++ b ∷ []) = omega (arith, counted ∙ ap (λ (t : Bool). count_by ends w + (0 + cond t 1 0)) e) in
        let column : 1 + length (after_last ends w) + 1 ≡ 1 + length (after_last ends (w ++ b ∷ [])) = omega (arith, column_is w, columns ∙ ap (λ (t : Bool). cond (not t) (1 + suffix_len stays w) 0) e) in
        ap (λ (t : Bool). if t then record { line = 1 + count_by ends w + 1; column = 1 } else record { line = 1 + count_by ends w; column = 1 + length (after_last ends w) + 1 }) e
        ∙ ap (λ l. record { line = l; column = 1 + length (after_last ends w) + 1 }) line ∙ ap (λ k. record { line = 1 + count_by ends (w ++ b ∷ []); column = k }) column

pub moved_behind : (v w : List ℕ) → moved (behind w) v ≡ behind (w ++ v)
moved_behind [] w = ap behind (sym (append-nil w))
moved_behind (b ∷ v) w = ap (λ p. moved p v) (next_behind w b) ∙ moved_behind v (w ++ b ∷ []) ∙ ap behind (append_assoc w (b ∷ []) v)

-- from one byte to a later one
pub moved_to : (bytes : List ℕ) (i n : ℕ) → moved (place_of bytes i) (take n (drop i bytes)) ≡ place_of bytes (i + n)
moved_to bytes i n = moved_behind (take n (drop i bytes)) (take i bytes) ∙ ap behind (sym (take-add i n bytes))

-- up to a byte, or to the end for one that is not there
take_min : (bytes : List ℕ) (at : ℕ) → take (min at (length bytes)) bytes ≡ take at bytes
take_min bytes at = grind (arith, common_steps)

pub place_is : (bytes : List ℕ) (at : ℕ) → moved (record { line = 1; column = 1 }) (take (min at (length bytes)) bytes) ≡ place_of bytes at
place_is bytes at = moved_behind (take (min at (length bytes)) bytes) [] ∙ ap behind (take_min bytes at)

-- lines and columns are few
pub place_small : (bytes : List ℕ) (at : ℕ) → ((place_of bytes at).line ≤ 1 + length bytes) × ((place_of bytes at).column ≤ 1 + length bytes)
place_small bytes at = (omega (arith, count_by-le-length ends (take at bytes), length-take at bytes), omega (arith, column_is (take at bytes), suffix_len-le-length stays (take at bytes), length-take at bytes))
