-- Each word that is written is a token before what follows it.
use Rattle.std.proofs.Common.{◌≡◌, ℕ, ◌<◌, ◌≤◌, Bool, true, false, not, ◌||◌, ◌&&◌, ◌==◌, List, [], ◌∷◌, ◌++◌, length, encode_utf8_all, slice_get, pos, refl, sym, ap, ap₂, subst, ◌∙◌, arith, nat_lt}
use Rattle.std.proofs.lemmas.Bool.Decides.{nat_tests}
use Rattle.std.proofs.lemmas.Slice.Eq.{bytes_eq-Decides}
use Rattle.std.proofs.lemmas.Str.{encodes-append, encode_ascii}
use Rattle.std.proofs.lemmas.List.Sums.{AllPass-from_list_all}
use Rattle.std.specs.Char.{is_ascii_digit, is_ascii_alphabetic, is_ascii_alphanumeric}
use Rattle.std.specs.Fmt.{signed_decimal}
use Rattle.std.specs.List.{list_any, list_all}
use Rattle.std.specs.Str.{all_scalars, bytes_eq}
use Rattle.unicode_ident.proofs.IdentLemmas.{is_xid_start-ascii, is_xid_continue-ascii}
use Rattle.jn_base.specs.declared.tree.Text.{Text}
use Rattle.jn_base.specs.declared.tree.Name.{Name}
use Rattle.jn_base.specs.declared.token.TokenKind.{TokenKind}
use Rattle.jn_base.specs.declared.token.TokenKind.TheVariants as sort
use Rattle.jn_base.specs.declared.word.Keyword.{Keyword}
use Rattle.jn_base.specs.declared.word.Keyword.TheVariants as keyword_
use Rattle.jn_base.specs.declared.word.Mark.{Mark}
use Rattle.jn_base.specs.declared.word.Mark.TheVariants as mark_
use Rattle.jn_base.specs.declared.word.Word.{Word}
use Rattle.jn_base.specs.declared.word.Word.TheVariants as word_
use Rattle.jn_base.specs.Tokens.{quote, slash, star, digits_value, BeginsWithNo, begins_name, continues_name, is_keyword, is_mark, marks, begins_comment, IsToken, name, keyword, number, text, mark}
use Rattle.jn_base.specs.Words.{keyword_text, mark_text, IsWord}
use Rattle.jn_base.specs.Words as Words
use Rattle.jn_printer.specs.Pieces.{name_text, bytes_of}
use Rattle.jn_printer.specs.StmtText.{escaped}
use Rattle.jn_printer.proofs.EscapeProof.{escaped_reads}
use Rattle.jn_printer.proofs.Follows.{and_left, and_right, ends_no_name, ends_no_digit}
use Rattle.jn_printer.proofs.Written.{goes_on, breaks, calm, Setting, GivenName, GivenText, Piece, a_name, a_keyword, a_number, a_text, a_mark}
use Rattle.jn_printer.proofs.Chars.{Each, each_of, all_of, Small, small_encode, small_scalars, scalars_append, first_ends, first_calm, no_return, bytes_no_return, escaped_scalars, escaped_encoded, escaped_in}
use Rattle.jn_printer.proofs.Decimals.{Decimal, decimal_is}

-- what follows, by its characters
ends_names : (cs t : List ℕ) → encode_utf8_all cs ≡ t → breaks t ≡ true → BeginsWithNo continues_name cs
ends_names [] t e b = tt
ends_names (c ∷ cs) t e b = ends_no_name c (first_ends c (encode_utf8_all cs) t (sym e) b)

ends_digits : (cs t : List ℕ) → encode_utf8_all cs ≡ t → breaks t ≡ true → BeginsWithNo is_ascii_digit cs
ends_digits [] t e b = tt
ends_digits (c ∷ cs) t e b = ends_no_digit c (first_ends c (encode_utf8_all cs) t (sym e) b)

-- nothing, or a calm first character
abbrev Calm : List ℕ → Type 0
Calm [] = Unit {0}
Calm (c ∷ cs) = not (goes_on c) ≡ true

calm_chars : (cs t : List ℕ) → encode_utf8_all cs ≡ t → calm t ≡ true → Calm cs
calm_chars [] t e b = tt
calm_chars (c ∷ cs) t e b = first_calm c (encode_utf8_all cs) t (sym e) b

-- ---- keywords

abbrev is_lower : ℕ → Bool
is_lower c = not (nat_lt c 97) && nat_lt c 123

lower_small : (c : ℕ) → is_lower c ≡ true → c < 128
lower_small c h = grind (arith, nat_tests)

lower_starts : (c : ℕ) → is_lower c ≡ true → begins_name c ≡ true
lower_starts c h = ap (λ (b : Bool). b || c == 95) (is_xid_start-ascii c (lower_small c h) ∙ letter c h) where
  letter : (c : ℕ) → is_lower c ≡ true → is_ascii_alphabetic c ≡ true
  letter c h = grind (arith, nat_tests)

lower_goes_on : (c : ℕ) → is_lower c ≡ true → continues_name c ≡ true
lower_goes_on c h = is_xid_continue-ascii c (lower_small c h) ∙ letter c h where
  letter : (c : ℕ) → is_lower c ≡ true → (is_ascii_alphanumeric c || (c == 95)) ≡ true
  letter c h = grind (arith, nat_tests)

lowers_go_on : (w : List ℕ) → list_all is_lower w ≡ true → list_all continues_name w ≡ true
lowers_go_on [] h = refl
lowers_go_on (c ∷ w) h = ap₂ (λ (a b : Bool). a && b) (lower_goes_on c (and_left _ _ h)) (lowers_go_on w (and_right _ _ h))

lowers_small : (w : List ℕ) → list_all is_lower w ≡ true → Small w
lowers_small [] h = tt
lowers_small (c ∷ w) h = (lower_small c (and_left _ _ h), lowers_small w (and_right _ _ h))

-- `Stands k w t`: before characters with the bytes t, the bytes w are a token of the sort k
pub record Stands (k : TokenKind) (w t : List ℕ) : Type 0 where
  pub characters : List ℕ
  pub scalars : all_scalars characters ≡ true
  pub spelled : encode_utf8_all characters ≡ w
  pub token : (cs : List ℕ) → encode_utf8_all cs ≡ t → IsToken k characters cs

keyword_stands : (c : ℕ) (w t : List ℕ) → list_all is_lower (c ∷ w) ≡ true → is_keyword (c ∷ w) ≡ true → breaks t ≡ true → Stands sort.Keyword (c ∷ w) t
keyword_stands c w t l k b = record {
  characters = c ∷ w;
  scalars = small_scalars (c ∷ w) (lowers_small (c ∷ w) l);
  spelled = small_encode (c ∷ w) (lowers_small (c ∷ w) l);
  token = λ cs e. keyword (lower_starts c (and_left _ _ l)) (AllPass-from_list_all continues_name w (lowers_go_on w (and_right (is_lower c) _ l))) (ends_names cs t e b) k;
}

pub keyword_is : (k : Keyword) (t : List ℕ) → breaks t ≡ true → Stands sort.Keyword (keyword_text k) t
unfolding is_keyword
keyword_is keyword_.Adapts t b = keyword_stands _ _ t refl refl b
keyword_is keyword_.Boolean t b = keyword_stands _ _ t refl refl b
keyword_is keyword_.Class t b = keyword_stands _ _ t refl refl b
keyword_is keyword_.Else t b = keyword_stands _ _ t refl refl b
keyword_is keyword_.Extends t b = keyword_stands _ _ t refl refl b
keyword_is keyword_.False t b = keyword_stands _ _ t refl refl b
keyword_is keyword_.Final t b = keyword_stands _ _ t refl refl b
keyword_is keyword_.If t b = keyword_stands _ _ t refl refl b
keyword_is keyword_.Int t b = keyword_stands _ _ t refl refl b
keyword_is keyword_.Is t b = keyword_stands _ _ t refl refl b
keyword_is keyword_.New t b = keyword_stands _ _ t refl refl b
keyword_is keyword_.Null t b = keyword_stands _ _ t refl refl b
keyword_is keyword_.Package t b = keyword_stands _ _ t refl refl b
keyword_is keyword_.Print t b = keyword_stands _ _ t refl refl b
keyword_is keyword_.Return t b = keyword_stands _ _ t refl refl b
keyword_is keyword_.Shares t b = keyword_stands _ _ t refl refl b
keyword_is keyword_.Sharing t b = keyword_stands _ _ t refl refl b
keyword_is keyword_.Super t b = keyword_stands _ _ t refl refl b
keyword_is keyword_.This t b = keyword_stands _ _ t refl refl b
keyword_is keyword_.True t b = keyword_stands _ _ t refl refl b
keyword_is keyword_.View t b = keyword_stands _ _ t refl refl b
keyword_is keyword_.Void t b = keyword_stands _ _ t refl refl b
keyword_is keyword_.While t b = keyword_stands _ _ t refl refl b

-- ---- marks

-- of two characters at most, and where there are two the second is not calm, unless the first is `|`
abbrev mark_shape : List ℕ → Bool
mark_shape [] = false
mark_shape (c ∷ []) = true
mark_shape (c ∷ d ∷ []) = goes_on d || c == 124
mark_shape (c ∷ d ∷ e ∷ w) = false

-- what all texts of a list pass, each of them passes
among : (test : List ℕ → Bool) (w : List ℕ) (ws : List (List ℕ)) → list_any (bytes_eq w) ws ≡ true → list_all test ws ≡ true → test w ≡ true
among test w [] any all = absurd (cc)
among test w (v ∷ ws) any all = by_test (bytes_eq w v) refl any (among test w ws)
  where
    by_test : (b : Bool) → bytes_eq w v ≡ b → (b || list_any (bytes_eq w) ws) ≡ true → (list_any (bytes_eq w) ws ≡ true → list_all test ws ≡ true → test w ≡ true) → test w ≡ true
    by_test true e a others = ap test ((bytes_eq-Decides w v).0 e) ∙ and_left (test v) (list_all test ws) all
    by_test false e a others = others a (and_right (test v) (list_all test ws) all)

shaped : (w : List ℕ) → is_mark w ≡ true → mark_shape w ≡ true
unfolding is_mark
shaped w h = among mark_shape w marks h refl

at_most_two : (v : List ℕ) → is_mark v ≡ true → length v ≤ 2
at_most_two [] m = omega arith
at_most_two (a ∷ []) m = omega arith
at_most_two (a ∷ b ∷ []) m = omega arith
at_most_two (a ∷ b ∷ e ∷ v) m = let shape : false ≡ true = shaped (a ∷ b ∷ e ∷ v) m in absurd (cc)

one_long : (c : ℕ) (cs : List ℕ) → (c == 124) ≡ false → Calm cs → (v others : List ℕ) → is_mark v ≡ true → c ∷ cs ≡ v ++ others → length v ≤ 1
one_long c cs n k [] others m e = omega arith
one_long c cs n k (a ∷ []) others m e = omega arith
one_long c [] n k (a ∷ b ∷ v) others m e = absurd (cc)
one_long c (d ∷ cs) n k (a ∷ b ∷ []) others m e =
    let first : c ≡ a = cc in
    let second : d ≡ b = cc in
    let shape : (goes_on b || a == 124) ≡ true = shaped (a ∷ b ∷ []) m in
    let calmly : not (goes_on b) ≡ true = subst (λ x. not (goes_on x) ≡ true) second k in
    let no : (a == 124) ≡ false = subst (λ x. (x == 124) ≡ false) first n in
    absurd (neither (goes_on b) (a == 124) shape calmly no)
  where
    neither : (x y : Bool) → (x || y) ≡ true → not x ≡ true → y ≡ false → ⊥
    neither true y s k n = cc
    neither false true s k n = cc
    neither false false s k n = cc
one_long c cs n k (a ∷ b ∷ f ∷ v) others m e = let shape : false ≡ true = shaped (a ∷ b ∷ f ∷ v) m in absurd (cc)

no_comment : (c : ℕ) (cs : List ℕ) → Calm cs → begins_comment (c ∷ cs) ≡ false
no_comment c [] k = refl
no_comment c (d ∷ cs) k = lemma (c == slash) d k where
  lemma : (x : Bool) (d : ℕ) → not (goes_on d) ≡ true → (x && (d == slash || d == star)) ≡ false
  lemma false d k = refl
  lemma true d k = grind (arith, nat_tests)

no_comment_two : (c d : ℕ) (cs : List ℕ) → (c == slash) ≡ false → begins_comment (c ∷ d ∷ cs) ≡ false
no_comment_two c d cs n = ap (λ (b : Bool). b && (d == slash || d == star)) n

single : (c : ℕ) (t : List ℕ) → is_mark (c ∷ []) ≡ true → c < 128 → (c == 124) ≡ false → calm t ≡ true → Stands sort.Mark (c ∷ []) t
single c t m h n k = record {
  characters = c ∷ [];
  scalars = small_scalars (c ∷ []) (h, tt);
  spelled = small_encode (c ∷ []) (h, tt);
  token = λ cs e. mark m (no_comment c cs (calm_chars cs t e k)) (one_long c cs n (calm_chars cs t e k));
}

double : (c d : ℕ) (t : List ℕ) → is_mark (c ∷ d ∷ []) ≡ true → c < 128 → d < 128 → (c == slash) ≡ false → Stands sort.Mark (c ∷ d ∷ []) t
double c d t m h k n = record {
  characters = c ∷ d ∷ [];
  scalars = small_scalars (c ∷ d ∷ []) (h, (k, tt));
  spelled = small_encode (c ∷ d ∷ []) (h, (k, tt));
  token = λ cs e. mark m (no_comment_two c d cs n) (λ v others q r. at_most_two v q);
}

pub mark_is : (m : Mark) (t : List ℕ) → calm t ≡ true → Stands sort.Mark (mark_text m) t
unfolding is_mark
mark_is mark_.EqualEqual t k = double _ _ t refl (omega arith) (omega arith) refl
mark_is mark_.NotEqual t k = double _ _ t refl (omega arith) (omega arith) refl
mark_is mark_.LessEqual t k = double _ _ t refl (omega arith) (omega arith) refl
mark_is mark_.GreaterEqual t k = double _ _ t refl (omega arith) (omega arith) refl
mark_is mark_.AndAnd t k = double _ _ t refl (omega arith) (omega arith) refl
mark_is mark_.OrOr t k = double _ _ t refl (omega arith) (omega arith) refl
mark_is mark_.Arrow t k = double _ _ t refl (omega arith) (omega arith) refl
mark_is mark_.OpenBrace t k = single _ t refl (omega arith) refl k
mark_is mark_.CloseBrace t k = single _ t refl (omega arith) refl k
mark_is mark_.OpenParen t k = single _ t refl (omega arith) refl k
mark_is mark_.CloseParen t k = single _ t refl (omega arith) refl k
mark_is mark_.OpenBracket t k = single _ t refl (omega arith) refl k
mark_is mark_.CloseBracket t k = single _ t refl (omega arith) refl k
mark_is mark_.Dot t k = single _ t refl (omega arith) refl k
mark_is mark_.Comma t k = single _ t refl (omega arith) refl k
mark_is mark_.Semicolon t k = single _ t refl (omega arith) refl k
mark_is mark_.Equals t k = single _ t refl (omega arith) refl k
mark_is mark_.Bang t k = single _ t refl (omega arith) refl k
mark_is mark_.Less t k = single _ t refl (omega arith) refl k
mark_is mark_.Greater t k = single _ t refl (omega arith) refl k
mark_is mark_.Plus t k = single _ t refl (omega arith) refl k
mark_is mark_.Minus t k = single _ t refl (omega arith) refl k
mark_is mark_.Star t k = single _ t refl (omega arith) refl k
mark_is mark_.Slash t k = single _ t refl (omega arith) refl k
mark_is mark_.Percent t k = single _ t refl (omega arith) refl k
mark_is mark_.Ampersand t k = single _ t refl (omega arith) refl k
mark_is mark_.Backslash t k = single _ t refl (omega arith) refl k

-- ---- names, numbers and texts

name_is : (names : List Text) (x : Name) (t : List ℕ) → GivenName names x → breaks t ≡ true → Stands sort.Name (name_text names x) t
name_is names x t g b = record {
  characters = g.first ∷ g.others;
  scalars = g.scalars;
  spelled = g.spelled;
  token = λ cs e. name g.begins g.go_on (ends_names cs t e b) g.no_keyword;
}

digits_small : (w : List ℕ) → list_all is_ascii_digit w ≡ true → Small w
digits_small [] h = tt
digits_small (c ∷ w) h = (small c (and_left _ _ h), digits_small w (and_right _ _ h)) where
  small : (c : ℕ) → is_ascii_digit c ≡ true → c < 128
  small c h = grind (arith, nat_tests)

number_is : (n : ℕ) (t : List ℕ) → Decimal n → breaks t ≡ true → Stands sort.Number (signed_decimal (pos n)) t
number_is n t d b = record {
  characters = d.first ∷ d.others;
  scalars = small_scalars (d.first ∷ d.others) (digits_small (d.first ∷ d.others) d.digits);
  spelled = small_encode (d.first ∷ d.others) (digits_small (d.first ∷ d.others) d.digits) ∙ sym d.text;
  token = λ cs e. number (AllPass-from_list_all is_ascii_digit (d.first ∷ d.others) d.digits) (ends_digits cs t e b) d.good;
}

text_is : (texts : List Text) (n : ℕ) (t : List ℕ) → GivenText texts n → Stands sort.Text (quote ∷ (escaped (bytes_of (slice_get texts n)) ++ quote ∷ [])) t
text_is texts n t g = record {
  characters = quote ∷ (escaped g.characters ++ quote ∷ []);
  scalars = scalars_append (escaped g.characters) (quote ∷ []) (escaped_scalars g.characters g.scalars) refl;
  spelled =
      ap₂ (λ (x y : List ℕ). x ++ y) (encode_ascii quote (omega arith))
      (encodes-append (escaped g.characters) (quote ∷ [])
      ∙ ap₂ (λ (x y : List ℕ). x ++ y) (escaped_encoded g.characters ∙ ap escaped g.spelled) (small_encode (quote ∷ []) (omega arith, tt)));
  token = λ cs e. text (escaped_in g.characters (each_of (λ c. no_return c ≡ true) g.characters g.no_return));
}

-- ---- words

pub record IsPiece (s : Setting) (x : Word) (w t : List ℕ) : Type 0 where
  pub kind : TokenKind
  pub stands : Stands kind w t
  pub is_word : IsWord s.names s.texts kind w x

pub piece_is : (s : Setting) {x : Word} {w t : List ℕ} → Piece s x w t → IsPiece s x w t
piece_is s (a_name {x = x} {t = t} g b) = record { kind = sort.Name; stands = name_is s.names x t g b; is_word = Words.a_name g.there }
piece_is s (a_keyword k {t = t} b) = record { kind = sort.Keyword; stands = keyword_is k t b; is_word = Words.a_keyword k }
piece_is s (a_number n {t = t} f b) =
    let d = decimal_is n f in
    let value : digits_value (signed_decimal (pos n)) ≡ n = ap digits_value d.text ∙ d.value in
    record {
      kind = sort.Number;
      stands = number_is n t d b;
      is_word = subst (λ (v : ℕ). IsWord s.names s.texts sort.Number (signed_decimal (pos n)) (word_.Number (pos v))) value Words.a_number;
    }
piece_is s (a_text n {t = t} g) =
    let plain : Each (λ b. (b ≡ 13) → ⊥) (bytes_of (slice_get s.texts n)) =
    subst (λ (xs : List ℕ). Each (λ b. (b ≡ 13) → ⊥) xs) g.spelled (bytes_no_return g.characters (each_of (λ c. no_return c ≡ true) g.characters g.no_return)) in
    record {
      kind = sort.Text;
      stands = text_is s.texts n t g;
      is_word = Words.a_text (escaped_reads (bytes_of (slice_get s.texts n)) (all_of (λ b. (b ≡ 13) → ⊥) (bytes_of (slice_get s.texts n)) plain)) g.there;
    }
piece_is s (a_mark m {t = t} k) = record { kind = sort.Mark; stands = mark_is m t k; is_word = Words.a_mark m }
