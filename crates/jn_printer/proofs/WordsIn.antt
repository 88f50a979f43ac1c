-- What a source says of its words: each name is a name, each number in range, and each text can be written.
use Rattle.std.proofs.Common.{◌≡◌, ◌≢◌, ℕ, ◌+◌, ◌-◌, ◌<◌, ◌≤◌, Bool, true, false, not, ◌||◌, ◌&&◌, ◌==◌, List, [], ◌∷◌, ◌++◌, length, take, drop, Option, Some, pos, slice_get, encode_utf8, encode_utf8_all, nat_le, refl, sym, ap, ap₂, subst, ◌∙◌, append-nil, length-append, arith, ◌⊎◌, inl, inr}
use Rattle.std.proofs.lemmas.Bool.Decides.{nat_tests}
use Rattle.std.proofs.lemmas.List.Sums.{list_all-from_AllPass}
use Rattle.std.proofs.lemmas.Str.{encodes-append, encode_ascii}
use Rattle.std.specs.Str.{all_scalars}
use Rattle.std.specs.Char.{is_ascii_digit}
use Rattle.std.specs.List.{list_all}
use Rattle.jn_base.specs.declared.tree.Text.{Text}
use Rattle.jn_base.specs.declared.token.Token.{Token}
use Rattle.jn_base.specs.declared.token.TokenKind.{TokenKind}
use Rattle.jn_base.specs.declared.token.TokenKind.TheVariants as sort
use Rattle.jn_base.specs.declared.token.LexFault.{LexFault}
use Rattle.jn_base.specs.declared.word.Word.{Word}
use Rattle.jn_base.specs.declared.word.Lexeme.{Lexeme}
use Rattle.jn_base.specs.Tokens.{quote, backslash, line_feed, carriage_return, is_plain, is_escape, IsInText, no_more, plain, escape, digits_value, greatest_number, is_good_number, width, IsToken, name, number, text, Lexes, at_end, fault, blank, comment, token}
use Rattle.jn_base.specs.Words.{text_of, Reads, nothing, escaped_quote, escaped_backslash, escaped_line_feed, IsWord, a_name, a_keyword, a_number, a_text, a_mark, AreWords, no_word, then_word}
use Rattle.jn_base.specs.Words as Words
use Rattle.jn_printer.specs.Pieces.{bytes_of}
use Rattle.jn_printer.proofs.Follows.{and_left, and_right}
use Rattle.jn_printer.proofs.Written.{Setting, GivenName, GivenText, GivenNumber, IsGiven}
use Rattle.jn_printer.proofs.Chars.{Each, all_of, each_map, high_bytes, small_or_high, small_scalar, scalars_left, scalars_right, Small, small_encode, no_return}
use Rattle.jn_printer.proofs.WordsOut.{slice_is, front_on, setting}

-- ---- texts

-- the characters that a text has when it is read
pub record ReadAs (read : List ℕ) : Type 0 where
  pub characters : List ℕ
  pub scalars : all_scalars characters ≡ true
  pub no_returns : Each (λ c. no_return c ≡ true) characters
  pub spelled : encode_utf8_all characters ≡ read

-- bytes without a backslash read as they are
record Passed (bs t read : List ℕ) : Type 0 where
  others : List ℕ
  split : read ≡ bs ++ others
  reads : Reads t others

pass_one : (b : ℕ) (t read : List ℕ) → b ≢ backslash → Reads (b ∷ t) read → Passed (b ∷ []) t read
pass_one b t _ n (Words.plain {text = r} p d) = record { others = r; split = refl; reads = d }
pass_one _ _ _ n (escaped_quote d) = absurd (n refl)
pass_one _ _ _ n (escaped_backslash d) = absurd (n refl)
pass_one _ _ _ n (escaped_line_feed d) = absurd (n refl)

pass : (bs t read : List ℕ) → Each (λ b. b ≢ backslash) bs → Reads (bs ++ t) read → Passed bs t read
pass [] t read a d = record { others = read; split = refl; reads = d }
pass (b ∷ bs) t read a d =
    let p = pass_one b (bs ++ t) read a.0 d in
    let q = pass bs t p.others a.1 p.reads in
    record { others = q.others; split = p.split ∙ ap (λ (xs : List ℕ). b ∷ xs) q.split; reads = q.reads }

-- an escape reads as one character
record Escaped (t read : List ℕ) : Type 0 where
  char : ℕ
  others : List ℕ
  split : read ≡ char ∷ others
  reads : Reads t others
  small : char < 128
  no_end : no_return char ≡ true

pass_escape : (c : ℕ) (t read : List ℕ) → Reads (backslash ∷ c ∷ t) read → Escaped t read
pass_escape c t _ (Words.plain p d) = absurd (cc)
pass_escape _ t _ (escaped_quote {text = r} d) = record { char = quote; others = r; split = refl; reads = d; small = omega arith; no_end = refl }
pass_escape _ t _ (escaped_backslash {text = r} d) = record { char = backslash; others = r; split = refl; reads = d; small = omega arith; no_end = refl }
pass_escape _ t _ (escaped_line_feed {text = r} d) = record { char = line_feed; others = r; split = refl; reads = d; small = omega arith; no_end = refl }

plain_slash : (c : ℕ) → is_plain c ≡ true → c ≢ backslash
plain_slash c p e = let no : is_plain backslash ≡ true = subst (λ x. is_plain x ≡ true) e p in absurd (cc)

plain_return : (c : ℕ) → is_plain c ≡ true → no_return c ≡ true
plain_return c p = by (c == quote) (c == backslash) (c == line_feed) (c == carriage_return) p where
  by : (a b l r : Bool) → not (a || b || (l || r)) ≡ true → not r ≡ true
  by a b l false h = refl
  by true b l true h = absurd (cc)
  by false true l true h = absurd (cc)
  by false false true true h = absurd (cc)
  by false false false true h = absurd (cc)

plain_bytes : (c : ℕ) → is_plain c ≡ true → (c < 128) ⊎ (128 ≤ c) → Each (λ b. b ≢ backslash) (encode_utf8 c)
plain_bytes c p (inl h) = subst (λ (xs : List ℕ). Each (λ b. b ≢ backslash) xs) (sym (encode_ascii c h)) (plain_slash c p, tt)
plain_bytes c p (inr h) = each_map (λ b. 128 ≤ b) (λ b. b ≢ backslash) (λ b l e. omega (arith, l, e)) (encode_utf8 c) (high_bytes c h)

escape_small : (c : ℕ) → is_escape c ≡ true → c < 128
escape_small c h = grind (arith, nat_tests)

read_as : {w : List ℕ} → IsInText w → all_scalars w ≡ true → (read : List ℕ) → Reads (encode_utf8_all w) read → ReadAs read
read_as no_more s _ nothing = record { characters = []; scalars = refl; no_returns = tt; spelled = refl }
read_as (plain {c = c} {w = w} p i) s read d =
    let q = pass (encode_utf8 c) (encode_utf8_all w) read (plain_bytes c p (small_or_high c)) d in
    let r = read_as i (and_right _ _ s) q.others q.reads in
    record {
      characters = c ∷ r.characters;
      scalars = ap₂ (λ (x y : Bool). x && y) (and_left _ _ s) r.scalars;
      no_returns = (plain_return c p, r.no_returns);
      spelled = ap (λ (xs : List ℕ). encode_utf8 c ++ xs) r.spelled ∙ sym q.split;
    }
read_as (escape {c = c} {w = w} p i) s read d =
    let two : encode_utf8_all (backslash ∷ c ∷ w) ≡ backslash ∷ c ∷ encode_utf8_all w =
    ap₂ (λ (x y : List ℕ). x ++ (y ++ encode_utf8_all w)) (encode_ascii backslash (omega arith)) (encode_ascii c (escape_small c p)) in
    let q = pass_escape c (encode_utf8_all w) read (subst (λ (xs : List ℕ). Reads xs read) two d) in
    let r = read_as i (scalars_right (backslash ∷ c ∷ []) w s) q.others q.reads in
    record {
      characters = q.char ∷ r.characters;
      scalars = ap₂ (λ (x y : Bool). x && y) (small_scalar q.char q.small) r.scalars;
      no_returns = (q.no_end, r.no_returns);
      spelled = ap₂ (λ (x y : List ℕ). x ++ y) (encode_ascii q.char q.small) r.spelled ∙ sym q.split;
    }

-- ---- the words one by one

name_given : (names : List Text) (n : ℕ) (w rest : List ℕ) → slice_get names n ≡ Some (Words.text (encode_utf8_all w)) → all_scalars w ≡ true → IsToken sort.Name w rest
    → GivenName names (record { 0 = n })
name_given names n _ rest there s (name {c = c} {w = w} b g r k) =
    let bytes : bytes_of (slice_get names n) ≡ encode_utf8_all (c ∷ w) = ap bytes_of there in
    record {
      first = c;
      others = w;
      begins = b;
      go_on = g;
      no_keyword = k;
      scalars = s;
      spelled = sym bytes;
      there = there ∙ ap (λ (xs : List ℕ). Some (Words.text xs)) (sym bytes);
    }

good_fits : (w : List ℕ) → is_good_number w ≡ true → digits_value w ≤ greatest_number
good_fits w h = lemma (digits_value w) greatest_number (and_right _ _ h) where
  lemma : (n g : ℕ) → nat_le n g ≡ true → n ≤ g
  lemma n g h = grind (arith, nat_tests)

digits_small : (w : List ℕ) → list_all is_ascii_digit w ≡ true → Small w
digits_small [] h = tt
digits_small (c ∷ w) h = (small c (and_left _ _ h), digits_small w (and_right _ _ h)) where
  small : (c : ℕ) → is_ascii_digit c ≡ true → c < 128
  small c h = grind (arith, nat_tests)

number_given : (w rest : List ℕ) → IsToken sort.Number w rest → GivenNumber (pos (digits_value (encode_utf8_all w)))
number_given _ rest (number {c = c} {w = w} d r g) =
    let small : encode_utf8_all (c ∷ w) ≡ c ∷ w = small_encode (c ∷ w) (digits_small (c ∷ w) (list_all-from_AllPass is_ascii_digit (c ∷ w) d)) in
    record { value = digits_value (encode_utf8_all (c ∷ w)); is = refl; fits = subst (λ (xs : List ℕ). digits_value xs ≤ greatest_number) (sym small) (good_fits (c ∷ w) g) }

-- between quotes
unquoted : (u v : List ℕ) → quote ∷ (u ++ quote ∷ []) ≡ encode_utf8_all (quote ∷ (v ++ quote ∷ [])) → u ≡ encode_utf8_all v
unquoted u v e = cut u (encode_utf8_all v) (tail_same (e ∙ ap₂ (λ (x y : List ℕ). x ++ y) (encode_ascii quote (omega arith)) (encodes-append v (quote ∷ []) ∙ ap (λ (x : List ℕ). encode_utf8_all v ++ x) (small_encode (quote ∷ []) (omega arith, tt)))))
  where
    tail_same : {a b : List ℕ} → quote ∷ a ≡ quote ∷ b → a ≡ b
    tail_same e = cc

    none : (x : ℕ) (xs : List ℕ) → [] ≡ xs ++ x ∷ [] → ⊥
    none x [] e = cc
    none x (y ∷ xs) e = cc

    cut : (u v : List ℕ) → u ++ quote ∷ [] ≡ v ++ quote ∷ [] → u ≡ v
    cut [] [] e = refl
    cut [] (y ∷ v) e = let t : [] ≡ v ++ quote ∷ [] = cc in absurd (none quote v t)
    cut (x ∷ u) [] e = let t : [] ≡ u ++ quote ∷ [] = cc in absurd (none quote u t)
    cut (x ∷ u) (y ∷ v) e =
        let h : x ≡ y = cc in
        let t : u ++ quote ∷ [] ≡ v ++ quote ∷ [] = cc in
        ap₂ (λ (z : ℕ) (zs : List ℕ). z ∷ zs) h (cut u v t)

text_given : (texts : List Text) (n : ℕ) (u read w rest : List ℕ) → Reads u read → slice_get texts n ≡ Some (Words.text read) → quote ∷ (u ++ quote ∷ []) ≡ encode_utf8_all w
    → all_scalars w ≡ true → IsToken sort.Text w rest → GivenText texts n
text_given texts n u read _ rest d there e s (text {w = w} i) =
    let inside : all_scalars w ≡ true = scalars_left w (quote ∷ []) (scalars_right (quote ∷ []) (w ++ quote ∷ []) s) in
    let r = read_as i inside read (subst (λ (xs : List ℕ). Reads xs read) (unquoted u w e) d) in
    let bytes : bytes_of (slice_get texts n) ≡ read = ap bytes_of there in
    record {
      characters = r.characters;
      scalars = r.scalars;
      no_return = all_of (λ c. no_return c ≡ true) r.characters r.no_returns;
      spelled = r.spelled ∙ sym bytes;
      there = there ∙ ap (λ (xs : List ℕ). Some (Words.text xs)) (sym bytes);
    }

pub word_given : (s : Setting) {k : TokenKind} {bs : List ℕ} {x : Word} → IsWord s.names s.texts k bs x → (w rest : List ℕ) → bs ≡ encode_utf8_all w → all_scalars w ≡ true → IsToken k w rest → IsGiven s x
word_given s (a_name {n = n} {w = bs} there) w rest e sc t = name_given s.names n w rest (there ∙ ap (λ (xs : List ℕ). Some (Words.text xs)) e) sc t
word_given s (a_keyword k) w rest e sc t = tt
word_given s (a_number {w = bs}) w rest e sc t = subst (λ (xs : List ℕ). GivenNumber (pos (digits_value xs))) (sym e) (number_given w rest t)
word_given s (a_text {n = n} {w = u} {read = read} d there) w rest e sc t = text_given s.texts n u read w rest d there e sc t
word_given s (a_mark m) w rest e sc t = tt

-- ---- all words of a source

abbrev pub AllGiven : Setting → List Lexeme → Type 0
AllGiven s [] = Unit {0}
AllGiven s (x ∷ ws) = IsGiven s x.word × AllGiven s ws

pub all_given : (names texts : List Text) (whole : List ℕ) {n : ℕ} {cs : List ℕ} {ts : List Token} {f : Option LexFault} → Lexes n cs ts f
    → (front : List ℕ) → whole ≡ front ++ encode_utf8_all cs → n ≡ length front → all_scalars cs ≡ true → {ws : List Lexeme} → AreWords whole names texts ts ws → AllGiven (setting names texts whole) ws
all_given names texts whole at_end front e a s no_word = tt
all_given names texts whole (fault i) front e a s no_word = tt
all_given names texts whole (blank {at = n} {c = c} {cs = cs} b d) front e a s ws =
    let long : length (front ++ encode_utf8 c) ≡ n + width (c ∷ []) = omega (arith, a, length-append front (encode_utf8 c), ap length (append-nil (encode_utf8 c))) in
    all_given names texts whole d (front ++ encode_utf8 c) (front_on whole front (encode_utf8 c) (encode_utf8_all cs) e) (sym long) (and_right _ _ s) ws
all_given names texts whole (comment {at = n} {w = w} {rest = rest} i d) front e a s ws =
    let long : length (front ++ encode_utf8_all w) ≡ n + width w = omega (arith, a, length-append front (encode_utf8_all w)) in
    let split : whole ≡ front ++ (encode_utf8_all w ++ encode_utf8_all rest) = e ∙ ap (λ (x : List ℕ). front ++ x) (encodes-append w rest) in
    all_given names texts whole d (front ++ encode_utf8_all w) (front_on whole front (encode_utf8_all w) (encode_utf8_all rest) split) (sym long) (scalars_right w rest s) ws
all_given names texts whole (token {at = n} {k = k} {w = w} {rest = rest} i d) front e a s (then_word x ws) =
    let long : length (front ++ encode_utf8_all w) ≡ n + width w = omega (arith, a, length-append front (encode_utf8_all w)) in
    let split : whole ≡ front ++ (encode_utf8_all w ++ encode_utf8_all rest) = e ∙ ap (λ (x : List ℕ). front ++ x) (encodes-append w rest) in
    let slice : take ((n + width w) - n) (drop n whole) ≡ encode_utf8_all w = slice_is whole front (encode_utf8_all w) (encode_utf8_all rest) n (width w) split a refl in (
      word_given (setting names texts whole) x w rest slice (scalars_left w rest s) i,
      all_given names texts whole d (front ++ encode_utf8_all w) (front_on whole front (encode_utf8_all w) (encode_utf8_all rest) split) (sym long) (scalars_right w rest s) ws,
    )
