-- What the marks have in common.
use Rattle.std.proofs.Common.{◌≡◌, ℕ, Bool, true, false, not, List, [], ◌∷◌, refl, ◌∙◌, ap, ◌&&◌, ◌||◌, ◌==◌}
use Rattle.std.specs.Prelude.{nat_lt}
use Rattle.std.specs.Char.{is_ascii_digit, is_ascii_alphabetic}
use Rattle.std.specs.List.{list_any, list_all}
use Rattle.std.specs.Str.{bytes_eq}
use Rattle.std.proofs.lemmas.Slice.Eq.{bytes_eq-Decides}
use Rattle.jn_base.specs.Tokens.{is_mark, marks, is_blank, quote, underscore}

-- a character with which a mark may begin: no white space, letter, digit, quote or `_`
abbrev pub may_begin_mark : ℕ → Bool
may_begin_mark c = nat_lt c 128 && not (is_blank c) && not (is_ascii_alphabetic c) && not (c == underscore) && not (is_ascii_digit c) && not (c == quote)

-- one or two characters, of which the first may begin a mark
abbrev pub has_shape_of_mark : List ℕ → Bool
has_shape_of_mark [] = false
has_shape_of_mark (c ∷ []) = may_begin_mark c
has_shape_of_mark (c ∷ d ∷ []) = may_begin_mark c
has_shape_of_mark (c ∷ d ∷ e ∷ w) = false

pub and_left : (a b : Bool) → (a && b) ≡ true → a ≡ true
and_left true b h = refl
and_left false b h = h

pub and_right : (a b : Bool) → (a && b) ≡ true → b ≡ true
and_right true b h = h
and_right false b h = absurd (cc)

-- what all texts of a list pass, each of them passes
among : (test : List ℕ → Bool) (w : List ℕ) (ws : List (List ℕ)) → list_any (bytes_eq w) ws ≡ true → list_all test ws ≡ true → test w ≡ true
among test w [] any all = absurd (cc)
among test w (v ∷ ws) any all = by_test (bytes_eq w v) refl any (among test w ws)
  where
    by_test : (b : Bool) → bytes_eq w v ≡ b → (b || list_any (bytes_eq w) ws) ≡ true → (list_any (bytes_eq w) ws ≡ true → list_all test ws ≡ true → test w ≡ true) → test w ≡ true
    by_test true e a others = ap test ((bytes_eq-Decides w v).0 e) ∙ and_left (test v) (list_all test ws) all
    by_test false e a others = others a (and_right (test v) (list_all test ws) all)

pub mark_shape : (w : List ℕ) → is_mark w ≡ true → has_shape_of_mark w ≡ true
unfolding is_mark
mark_shape w h = among has_shape_of_mark w marks h refl
