-- Characters and their bytes.
use Rattle.std.proofs.Common.{◌≡◌, ◌≢◌, ℕ, ◌<◌, ◌≤◌, Bool, true, false, not, ◌||◌, ◌&&◌, ◌==◌, List, [], ◌∷◌, ◌++◌, length, get_or, encode_utf8, encode_utf8_all, All, codes, refl, sym, ap, ap₂, subst, ◌∙◌, append_assoc, append-nil, arith, ◌⊎◌, inl, inr, if◌then◌else◌, nat_lt}
use Rattle.std.proofs.lemmas.Bool.Decides.{nat_tests}
use Rattle.std.proofs.lemmas.List.Elements.{All-head, All-tail, All-from_get_or, All-nil, All-cons}
use Rattle.std.proofs.lemmas.Str.{char_from_byte, byte_from_char, encodes-append, encode_ascii, inside_one, length-encode, len_utf8_bounds}
use Rattle.std.specs.Str.{all_scalars}
use Rattle.std.specs.Char.{IsScalar}
use Rattle.jn_base.specs.Tokens.{quote, backslash, line_feed, carriage_return, IsInText, no_more, plain, escape}
use Rattle.jn_printer.specs.StmtText.{escaped}
use Rattle.jn_printer.specs.StmtText as StmtText
use Rattle.jn_printer.proofs.Follows.{and_left, and_right}
use Rattle.jn_printer.proofs.Written.{ends_word, goes_on, breaks, calm}

pub small_scalar : (c : ℕ) → c < 128 → IsScalar c
small_scalar c h = grind (arith, nat_tests)

pub scalars_append : (v w : List ℕ) → all_scalars v ≡ true → all_scalars w ≡ true → all_scalars (v ++ w) ≡ true
scalars_append [] w a b = b
scalars_append (c ∷ v) w a b = ap₂ (λ (x y : Bool). x && y) (and_left _ _ a) (scalars_append v w (and_right _ _ a) b)

pub scalars_left : (v w : List ℕ) → all_scalars (v ++ w) ≡ true → all_scalars v ≡ true
scalars_left [] w a = refl
scalars_left (c ∷ v) w a = ap₂ (λ (x y : Bool). x && y) (and_left _ _ a) (scalars_left v w (and_right _ _ a))

pub scalars_right : (v w : List ℕ) → all_scalars (v ++ w) ≡ true → all_scalars w ≡ true
scalars_right [] w a = a
scalars_right (c ∷ v) w a = scalars_right v w (and_right _ _ a)

-- ---- characters of one byte

abbrev pub Small : List ℕ → Type 0
Small [] = Unit {0}
Small (c ∷ w) = (c < 128) × Small w

pub small_encode : (w : List ℕ) → Small w → encode_utf8_all w ≡ w
small_encode [] h = refl
small_encode (c ∷ w) h = ap₂ (λ (x y : List ℕ). x ++ y) (encode_ascii c h.0) (small_encode w h.1)

pub small_scalars : (w : List ℕ) → Small w → all_scalars w ≡ true
small_scalars [] h = refl
small_scalars (c ∷ w) h = ap₂ (λ (x y : Bool). x && y) (small_scalar c h.0) (small_scalars w h.1)

-- ---- the first character from the first byte

not_none : (c : ℕ) (rest : List ℕ) → [] ≡ encode_utf8 c ++ rest → ⊥
not_none c rest e =
    let l = len_utf8_bounds c in
    let some : 1 ≤ length (encode_utf8 c) = subst (λ n. 1 ≤ n) (sym (length-encode c)) l.0 in
    by (encode_utf8 c) some e
  where
    by : (xs : List ℕ) → 1 ≤ length xs → [] ≡ xs ++ rest → ⊥
    by [] l e = absurd (omega (arith, l))
    by (x ∷ xs) l e = absurd (cc)

ends_small : (c : ℕ) → ends_word c ≡ true → c < 128
ends_small c e = grind (arith, nat_tests)

pub first_ends : (c : ℕ) (rest t : List ℕ) → t ≡ encode_utf8 c ++ rest → breaks t ≡ true → ends_word c ≡ true
first_ends c rest [] e b = absurd (not_none c rest e)
first_ends c rest (x ∷ t) e b = subst (λ y. ends_word y ≡ true) (sym (char_from_byte (x ∷ t) rest c e (ends_small x b) (omega arith))) b

goes_small : (c : ℕ) → goes_on c ≡ true → c < 128
goes_small c e = grind (arith, nat_tests)

pub first_calm : (c : ℕ) (rest t : List ℕ) → t ≡ encode_utf8 c ++ rest → calm t ≡ true → not (goes_on c) ≡ true
first_calm c rest [] e b = absurd (not_none c rest e)
first_calm c rest (x ∷ t) e b = by (goes_on c) refl where
  by : (v : Bool) → goes_on c ≡ v → not v ≡ true
  by false h = refl
  by true h =
      let same : x ≡ c = byte_from_char (x ∷ t) rest c e (goes_small c h) in
      let no : not (goes_on c) ≡ true = subst (λ y. not (goes_on y) ≡ true) same b in
      let yes : not (goes_on c) ≡ false = ap (λ (v : Bool). not v) h in
      absurd (cc)

-- ---- the bytes of a character that is no ASCII

abbrev pub Each : (ℕ → Type 0) → List ℕ → Type 0
Each P [] = Unit {0}
Each P (x ∷ xs) = P x × Each P xs

pub each_of : (P : ℕ → Type 0) (xs : List ℕ) → All P xs → Each P xs
each_of P [] a = tt
each_of P (x ∷ xs) a = (All-head P x xs a, each_of P xs (All-tail P x xs a))

pub all_of : (P : ℕ → Type 0) (xs : List ℕ) → Each P xs → All P xs
all_of P [] a = All-nil P
all_of P (x ∷ xs) a = All-cons P x xs a.0 (all_of P xs a.1)

pub each_map : (P Q : ℕ → Type 0) → ((x : ℕ) → P x → Q x) → (xs : List ℕ) → Each P xs → Each Q xs
each_map P Q f [] a = tt
each_map P Q f (x ∷ xs) a = (f x a.0, each_map P Q f xs a.1)

each_append : (P : ℕ → Type 0) (xs ys : List ℕ) → Each P xs → Each P ys → Each P (xs ++ ys)
each_append P [] ys a b = b
each_append P (x ∷ xs) ys a b = (a.0, each_append P xs ys a.1 b)

pub small_or_high : (b : ℕ) → (b < 128) ⊎ (128 ≤ b)
small_or_high b = by (nat_lt b 128) refl where
  by : (v : Bool) → nat_lt b 128 ≡ v → (b < 128) ⊎ (128 ≤ b)
  by true e = inl (grind (arith, nat_tests))
  by false e = inr (grind (arith, nat_tests))

-- the bytes of a character from 128 are from 128
pub high_bytes : (c : ℕ) → 128 ≤ c → Each (λ b. 128 ≤ b) (encode_utf8 c)
high_bytes c h = each_of (λ b. 128 ≤ b) (encode_utf8 c) (All-from_get_or (λ b. 128 ≤ b) (encode_utf8 c) 0 (λ k l. by k l (small_or_high (get_or (encode_utf8 c) k 0)))) where
  by : (k : ℕ) → k < length (encode_utf8 c) → (get_or (encode_utf8 c) k 0 < 128) ⊎ (128 ≤ get_or (encode_utf8 c) k 0) → 128 ≤ get_or (encode_utf8 c) k 0
  by k l (inr e) = e
  by k l (inl e) = let same = inside_one c [] (encode_utf8 c) k (sym (append-nil (encode_utf8 c))) l e in absurd (omega (arith, h, e, same))

-- ---- texts

abbrev pub no_return : ℕ → Bool
no_return c = not (c == carriage_return)

differs : (c : ℕ) → no_return c ≡ true → c ≢ carriage_return
differs c n e = let yes : no_return carriage_return ≡ true = subst (λ x. no_return x ≡ true) e n in absurd (cc)

high_differs : (b : ℕ) → 128 ≤ b → b ≢ carriage_return
high_differs b h e = omega (arith, h, e)

one_no_return : (c : ℕ) → (c < 128) ⊎ (128 ≤ c) → no_return c ≡ true → Each (λ b. b ≢ carriage_return) (encode_utf8 c)
one_no_return c (inl h) n = subst (λ (xs : List ℕ). Each (λ b. b ≢ carriage_return) xs) (sym (encode_ascii c h)) (differs c n, tt)
one_no_return c (inr h) n = each_map (λ b. 128 ≤ b) (λ b. b ≢ carriage_return) high_differs (encode_utf8 c) (high_bytes c h)

-- no byte is a carriage return where no character is
pub bytes_no_return : (cs : List ℕ) → Each (λ c. no_return c ≡ true) cs → Each (λ b. b ≢ carriage_return) (encode_utf8_all cs)
bytes_no_return [] a = tt
bytes_no_return (c ∷ cs) a = each_append (λ b. b ≢ carriage_return) (encode_utf8 c) (encode_utf8_all cs) (one_no_return c (small_or_high c) a.0) (bytes_no_return cs a.1)

-- a byte from 128 is no escape
high_escape : (b : ℕ) → 128 ≤ b → StmtText.escape b ≡ b ∷ []
high_escape b h = by (b == quote) (b == backslash) (b == line_feed) (no b quote (omega (arith, h))) (no b backslash (omega (arith, h))) (no b line_feed (omega (arith, h))) where
  no : (b k : ℕ) → k < b → (b == k) ≡ false
  no b k l = grind (arith, nat_tests)

  by : (x y z : Bool) → x ≡ false → y ≡ false → z ≡ false → (if x then codes "\\\"" else if y then codes "\\\\" else if z then codes "\\n" else b ∷ []) ≡ b ∷ []
  by true y z f g h = absurd (cc)
  by false true z f g h = absurd (cc)
  by false false true f g h = absurd (cc)
  by false false false f g h = refl

escaped_high : (bs t : List ℕ) → Each (λ b. 128 ≤ b) bs → escaped (bs ++ t) ≡ bs ++ escaped t
escaped_high [] t a = refl
escaped_high (b ∷ bs) t a = ap₂ (λ (x y : List ℕ). x ++ y) (high_escape b a.0) (escaped_high bs t a.1)

escaped_append : (v w : List ℕ) → escaped (v ++ w) ≡ escaped v ++ escaped w
escaped_append [] w = refl
escaped_append (c ∷ v) w = ap (λ (x : List ℕ). StmtText.escape c ++ x) (escaped_append v w) ∙ sym (append_assoc (StmtText.escape c) (escaped v) (escaped w))

by_test : {A : Type 0} (P : A → Type 0) (b : Bool) (x y : A) → (b ≡ true → P x) → (b ≡ false → P y) → P (if b then x else y)
by_test P true x y f g = f refl
by_test P false x y f g = g refl

escape_small : (c : ℕ) → c < 128 → Small (StmtText.escape c)
escape_small c h = by_test Small (c == quote) _ _ (λ q. (omega arith, (omega arith, tt))) (λ q. by_test Small (c == backslash) _ _ (λ b. (omega arith, (omega arith, tt))) (λ b.
    by_test Small (c == line_feed) _ _ (λ l. (omega arith, (omega arith, tt))) (λ l. (h, tt))))

escape_scalars : (c : ℕ) → (c < 128) ⊎ (128 ≤ c) → IsScalar c → all_scalars (StmtText.escape c) ≡ true
escape_scalars c (inl h) s = small_scalars (StmtText.escape c) (escape_small c h)
escape_scalars c (inr h) s = subst (λ (xs : List ℕ). all_scalars xs ≡ true) (sym (high_escape c h)) (ap (λ (b : Bool). b && true) s)

pub escaped_scalars : (cs : List ℕ) → all_scalars cs ≡ true → all_scalars (escaped cs) ≡ true
escaped_scalars [] s = refl
escaped_scalars (c ∷ cs) s = scalars_append (StmtText.escape c) (escaped cs) (escape_scalars c (small_or_high c) (and_left _ _ s)) (escaped_scalars cs (and_right _ _ s))

-- escapes of characters are escapes of their bytes
escape_encoded : (c : ℕ) → (c < 128) ⊎ (128 ≤ c) → encode_utf8_all (StmtText.escape c) ≡ escaped (encode_utf8 c)
escape_encoded c (inl h) = small_encode (StmtText.escape c) (escape_small c h) ∙ sym (append-nil (StmtText.escape c)) ∙ ap escaped (sym (encode_ascii c h))
escape_encoded c (inr h) =
    ap encode_utf8_all (high_escape c h) ∙ sym (escaped_high (encode_utf8 c) [] (high_bytes c h)) ∙ ap escaped (append-nil (encode_utf8 c))

pub escaped_encoded : (cs : List ℕ) → encode_utf8_all (escaped cs) ≡ escaped (encode_utf8_all cs)
escaped_encoded [] = refl
escaped_encoded (c ∷ cs) =
    encodes-append (StmtText.escape c) (escaped cs) ∙ ap₂ (λ (x y : List ℕ). x ++ y) (escape_encoded c (small_or_high c)) (escaped_encoded cs)
    ∙ sym (escaped_append (encode_utf8 c) (encode_utf8_all cs))

none_of : (q b l r : Bool) → q ≡ false → b ≡ false → l ≡ false → r ≡ false → not (q || b || (l || r)) ≡ true
none_of true b l r x y z w = absurd (cc)
none_of false true l r x y z w = absurd (cc)
none_of false false true r x y z w = absurd (cc)
none_of false false false true x y z w = absurd (cc)
none_of false false false false x y z w = refl

negated : (b : Bool) → not b ≡ true → b ≡ false
negated true h = absurd (cc)
negated false h = refl

-- what is escaped can stand in a text
pub escaped_in : (cs : List ℕ) → Each (λ c. no_return c ≡ true) cs → IsInText (escaped cs)
escaped_in [] a = no_more
escaped_in (c ∷ cs) a = by_test (λ (e : List ℕ). IsInText (e ++ escaped cs)) (c == quote) _ _ (λ q. escape refl (escaped_in cs a.1))
    (λ q. by_test (λ (e : List ℕ). IsInText (e ++ escaped cs)) (c == backslash) _ _ (λ b. escape refl (escaped_in cs a.1))
    (λ b. by_test (λ (e : List ℕ). IsInText (e ++ escaped cs)) (c == line_feed) _ _ (λ l. escape refl (escaped_in cs a.1))
    (λ l. plain (none_of (c == quote) (c == backslash) (c == line_feed) (c == carriage_return) q b l (negated (c == carriage_return) a.0)) (escaped_in cs a.1))))
